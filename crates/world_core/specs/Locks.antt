-- The locks under which calls may overlap: one for each tenant, and one for the administrator. In each definition that has a
-- parameter `needs`, `needs l call` tests whether the call needs lock l.
use Rattle.std.specs.Prelude.{◌≡◌, ℕ, ◌==◌, Bool, true, false, List, [], ◌∷◌, ◌++◌, filter}
use Rattle.std.specs.List.{AllByRecursion}
use Rattle.words_core.specs.declared.event.AdminCommand.{AdminCommand}
use Rattle.words_core.specs.declared.event.Event.{Event}

-- the event names tenant t
abbrev pub is_named : ℕ → Event → Bool
is_named t (Event.Tenant tenant command) = tenant == t
is_named t (Event.Admin (AdminCommand.Grant tenant)) = tenant == t
is_named t (Event.Admin (AdminCommand.TakeBack tenant slot)) = tenant == t
is_named t (Event.Admin (AdminCommand.Reset tenant)) = tenant == t
is_named t (Event.Admin (AdminCommand.Move tenant slot)) = tenant == t
is_named t (Event.Admin AdminCommand.Pool) = false

pub data Lock : Type 0 where
  OfTenant : ℕ → Lock
  OfAdministrator : Lock

-- An event needs the lock of the tenant that it names. A command of the administrator also needs the administrator's lock.
abbrev pub event_needs : Lock → Event → Bool
event_needs (OfTenant t) event = is_named t event
event_needs OfAdministrator (Event.Tenant tenant command) = false
event_needs OfAdministrator (Event.Admin command) = true

-- no lock is needed by both calls
abbrev pub ShareNoLock : {A : Type 0} → (Lock → A → Bool) → A → A → Type 0
ShareNoLock needs a b = (l : Lock) → needs l a ≡ true → needs l b ≡ true → ⊥

-- for each lock, both lists have the same calls that need it, in the same order
abbrev pub HaveSameLocks : {A : Type 0} → (Lock → A → Bool) → List A → List A → Type 0
HaveSameLocks needs calls calls' = (l : Lock) → filter (needs l) calls ≡ filter (needs l) calls'

-- the beginning or the end of a call
pub data Mark (A : Type 0) : Type 0 where
  Begins : A → Mark A
  Ends : A → Mark A

-- Each call holds its locks from its beginning to its end: it begins only if it shares no lock with a call that is running.
-- `running` are the calls that have begun before and not ended. In the end, none is running.
abbrev pub HoldLocks : {A : Type 0} → (Lock → A → Bool) → List A → List (Mark A) → Type 0
HoldLocks needs running [] = running ≡ []
HoldLocks needs running (Begins call ∷ marks) =
    AllByRecursion (ShareNoLock needs call) running × HoldLocks needs (call ∷ running) marks
HoldLocks {A = A} needs running (Ends call ∷ marks) =
    (before after : List A) × (running ≡ before ++ call ∷ after) × HoldLocks needs (before ++ after) marks

-- the calls in the order in which they begin, and in the order in which they end
abbrev pub begun : {A : Type 0} → List (Mark A) → List A
begun [] = []
begun (Begins call ∷ marks) = call ∷ begun marks
begun (Ends call ∷ marks) = begun marks

abbrev pub ended : {A : Type 0} → List (Mark A) → List A
ended [] = []
ended (Begins call ∷ marks) = ended marks
ended (Ends call ∷ marks) = call ∷ ended marks
