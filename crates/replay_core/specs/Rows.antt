-- The events whose reply has several lines.
use Rattle.words_core.specs.declared.event.AdminCommand.{AdminCommand}
use Rattle.words_core.specs.declared.event.Command.{Command}
use Rattle.words_core.specs.declared.event.Event.{Event}

-- the event is a request for a report or for the table of owners
abbrev pub HasRows : Event → Type 0
HasRows (Event.Tenant t Command.Report) = Unit {0}
HasRows (Event.Admin AdminCommand.Pool) = Unit {0}
HasRows (Event.Tenant t (Command.Alloc k)) = ⊥
HasRows (Event.Tenant t (Command.Free f)) = ⊥
HasRows (Event.Tenant t (Command.Read place len)) = ⊥
HasRows (Event.Tenant t (Command.Write place bytes)) = ⊥
HasRows (Event.Tenant t (Command.Cache size align pattern)) = ⊥
HasRows (Event.Tenant t (Command.Destroy number)) = ⊥
HasRows (Event.Tenant t (Command.Take number)) = ⊥
HasRows (Event.Tenant t (Command.Give number place)) = ⊥
HasRows (Event.Tenant t Command.Reap) = ⊥
HasRows (Event.Admin (AdminCommand.Grant t)) = ⊥
HasRows (Event.Admin (AdminCommand.TakeBack t u)) = ⊥
HasRows (Event.Admin (AdminCommand.Reset t)) = ⊥
HasRows (Event.Admin (AdminCommand.Move t u)) = ⊥
