-- The name of each promise, as `Promise::name` returns it.
use Rattle.std.specs.Prelude.{ℕ, List, codes}
use Rattle.promise_core.specs.declared.promise.Promise.{Promise}

abbrev pub name_of_promise : Promise → List ℕ
name_of_promise Promise.Form = codes "Form"
name_of_promise Promise.Refusals = codes "Refusals"
name_of_promise Promise.Room = codes "Room"
name_of_promise Promise.Busy = codes "Busy"
name_of_promise Promise.Blocks = codes "Blocks"
name_of_promise Promise.Objects = codes "Objects"
name_of_promise Promise.Layout = codes "Layout"
name_of_promise Promise.Gives = codes "Gives"
name_of_promise Promise.Owners = codes "Owners"
name_of_promise Promise.Bytes = codes "Bytes"
name_of_promise Promise.Report = codes "Report"
name_of_promise Promise.Still = codes "Still"
