-- The kind of answer that an event has.
use Rattle.words_core.specs.declared.event.AdminCommand.{AdminCommand}
use Rattle.words_core.specs.declared.event.Command.{Command}
use Rattle.trace_check.specs.declared.kinds.AnswerKind.{AnswerKind}

abbrev pub kind_of_command : Command → AnswerKind
kind_of_command (Command.Alloc order) = AnswerKind.Frame
kind_of_command (Command.Free frame) = AnswerKind.Freed
kind_of_command (Command.Read place len) = AnswerKind.Bytes
kind_of_command (Command.Write place bytes) = AnswerKind.Written
kind_of_command (Command.Cache size align pattern) = AnswerKind.Cache
kind_of_command (Command.Destroy cache) = AnswerKind.Destroyed
kind_of_command (Command.Take cache) = AnswerKind.Object
kind_of_command (Command.Give cache place) = AnswerKind.Given
kind_of_command Command.Reap = AnswerKind.Reaped
kind_of_command Command.Report = AnswerKind.Report

abbrev pub kind_of_admin : AdminCommand → AnswerKind
kind_of_admin (AdminCommand.Grant tenant) = AnswerKind.Granted
kind_of_admin (AdminCommand.TakeBack tenant slot) = AnswerKind.TakenBack
kind_of_admin (AdminCommand.Reset tenant) = AnswerKind.WasReset
kind_of_admin (AdminCommand.Move tenant slot) = AnswerKind.Moved
kind_of_admin AdminCommand.Pool = AnswerKind.Owners
