-- The frame of a reply's page block that a live page block has already.
use Rattle.std.specs.Prelude.{◌≡◌, ℕ, ◌≤◌, Option, IfSome, option_map}
use Rattle.words_core.specs.declared.reply.Body.{Body}
use Rattle.words_core.specs.declared.event.Command.{Command}
use Rattle.words_core.specs.declared.event.Event.{Event}
use Rattle.model_core.specs.Blocks.{Block, HasFrame, block}
use Rattle.promise_core.specs.State.{Known}
use Rattle.trace_check.specs.Finding.{page_in_way}
use Rattle.trace_check.specs.declared.taken.TakenFrame.{TakenFrame}

-- the frame is the first one that both blocks share
pub record IsFirstShared (a b : Block) (frame : ℕ) : Type 0 where
  pub one : HasFrame a frame
  pub other : HasFrame b frame
  pub first : (x : ℕ) → HasFrame a x → HasFrame b x → frame ≤ x

-- `taken` has the live page block that shares a frame with the reply's block, if there is one, and the first frame that both
-- share
pub record IsInWay (w : Known) (event : Event) (body : Body) (taken : Option TakenFrame) : Type 0 where
  pub page : option_map (λ found. found.page) taken ≡ page_in_way w event body
  pub frame : (t k f : ℕ) → event ≡ Event.Tenant t (Command.Alloc k) → body ≡ Body.Frame f
      → IfSome taken (λ found. IsFirstShared (block f k) found.page found.frame)
