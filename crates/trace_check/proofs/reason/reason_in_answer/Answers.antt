use Rattle.words_core.specs.Requests.{body_of_answer}
use Rattle.trace_check.proofs.ReasonLemmas.{none_given}
use Rattle.trace_check.proofs.reason.reason_in_answer.Goals as goal

pub returns-in-Blocks : goal.returns-in-Blocks
returns-in-Blocks c w shown = rw c.in-Blocks.is (c.block_reason.ensures w shown)

pub returns-in-Gives : goal.returns-in-Gives
returns-in-Gives c w shown = rw c.in-Gives.is (c.gives_reason.ensures w shown)

pub returns-in-Owners : goal.returns-in-Owners
returns-in-Owners c w shown = rw c.in-Owners.is (c.owners_reason.ensures w shown)

pub returns-in-Bytes : goal.returns-in-Bytes
returns-in-Bytes c w shown = rw c.in-Bytes.is (c.bytes_reason.ensures w shown)

pub returns-in-Objects : goal.returns-in-Objects
returns-in-Objects c w shown = rw c.in-Objects.is (c.object_reason.ensures w shown)

pub returns-in-Room : goal.returns-in-Room
returns-in-Room c w shown = rw c.in-Room.is (c.left_reason.ensures w shown)

pub returns-in-Busy : goal.returns-in-Busy
returns-in-Busy c w shown = rw c.in-Busy.is (c.busy_reason.ensures w shown)

pub returns-in-Layout : goal.returns-in-Layout
returns-in-Layout c w shown = rw c.in-Layout.is (c.layout_reason.ensures w shown)

pub returns-in-Still : goal.returns-in-Still
returns-in-Still c w shown = rw c.in-Still.is (c.still_reason.ensures w shown)

pub returns-in_default : goal.returns-in_default
returns-in_default c w shown = none_given c.args.promise w c.args.event.now (body_of_answer c.args.answer.now) c.in_default.not-Blocks c.in_default.not-Gives c.in_default.not-Owners c.in_default.not-Bytes c.in_default.not-Objects c.in_default.not-Room c.in_default.not-Busy c.in_default.not-Layout c.in_default.not-Still
