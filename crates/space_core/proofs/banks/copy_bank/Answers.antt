use Rattle.std.proofs.Common.{ℕ, ◌<◌, ◌≤◌, length, ap, sym, subst, ◌∙◌, arith}
use Rattle.std.specs.Global.{Vec}
use Rattle.space_core.proofs.TableLemmas.{front_read, back_read, front_written, back_written, bytes_of-copied, HaveCapacity-written}
use Rattle.space_core.proofs.banks.copy_bank.Goals as goal

pub returns-then-from-to-clause-bytes : goal.returns-then-from-to-clause-bytes
returns-then-from-to-clause-bytes c =
    let v = c.args.banks.now in
    let front = c.split_at_mut-low.result.0.now in
    let back = c.split_at_mut-low.result.1.now in
    let row = c.copy_bytes.new.bytes in
    let source = c.index-low-from.result in
    let whole = sym c.deref_mut.ensures.value ∙ c.split_at_mut-low.ensures.value in
    let read = c.index-low-from.is ∙ front_read v.items front back c.args.from source whole (omega (arith, c.split_at_mut-low.ensures.front_len)) in
    bytes_of-copied v _ c.args.from c.args.to source row (back_written v.items front back c.args.to row whole c.split_at_mut-low.ensures.front_len) (omega (arith, v.ok.0, c.requires.from)) read (c.copy_bytes.ensures.items ∙ (c.deref.ensures.value ∙ ap (λ (bank : Vec ℕ). bank.items) (sym c.index-low-from.is)))

pub returns-then-from-to-clause-capacity : goal.returns-then-from-to-clause-capacity
returns-then-from-to-clause-capacity c =
    let v = c.args.banks.now in
    let front = c.split_at_mut-low.result.0.now in
    let back = c.split_at_mut-low.result.1.now in
    let row = c.copy_bytes.new.bytes in
    let target = c.index-high-0.result in
    let whole = sym c.deref_mut.ensures.value ∙ c.split_at_mut-low.ensures.value in
    let read = c.index-high-0.is ∙ back_read v.items front back c.args.to target whole c.split_at_mut-low.ensures.front_len in
    HaveCapacity-written v _ c.args.to target row (back_written v.items front back c.args.to row whole c.split_at_mut-low.ensures.front_len) (omega (arith, v.ok.0, c.requires.to)) read (subst (λ (bank : Vec ℕ). bank.cap ≤ row.cap) (sym c.index-high-0.is) c.copy_bytes.ensures.capacity)

pub returns-else-from-to-clause-bytes : goal.returns-else-from-to-clause-bytes
returns-else-from-to-clause-bytes c =
    let v = c.args.banks.now in
    let cut = c.split_at_mut-low-else-from-to in
    let front = cut.result.0.now in
    let back = cut.result.1.now in
    let row = c.copy_bytes-else-from-to.new.bytes in
    let source = c.index-high-0-else-from-to.result in
    let whole = sym c.deref_mut-else-from-to.ensures.value ∙ cut.ensures.value in
    let read = c.index-high-0-else-from-to.is ∙ back_read v.items front back c.args.from source whole cut.ensures.front_len in
    bytes_of-copied v _ c.args.from c.args.to source row (front_written v.items front back c.args.to row whole (omega (arith, cut.ensures.front_len, c.requires.apart))) (omega (arith, v.ok.0, c.requires.from)) read (c.copy_bytes-else-from-to.ensures.items ∙ (c.deref-else-from-to.ensures.value ∙ ap (λ (bank : Vec ℕ). bank.items) (sym c.index-high-0-else-from-to.is)))

pub returns-else-from-to-clause-capacity : goal.returns-else-from-to-clause-capacity
returns-else-from-to-clause-capacity c =
    let v = c.args.banks.now in
    let cut = c.split_at_mut-low-else-from-to in
    let front = cut.result.0.now in
    let back = cut.result.1.now in
    let row = c.copy_bytes-else-from-to.new.bytes in
    let target = c.index-low-to.result in
    let whole = sym c.deref_mut-else-from-to.ensures.value ∙ cut.ensures.value in
    let below : c.args.to < length front = omega (arith, cut.ensures.front_len, c.requires.apart) in
    let read = c.index-low-to.is ∙ front_read v.items front back c.args.to target whole below in
    HaveCapacity-written v _ c.args.to target row (front_written v.items front back c.args.to row whole below) (omega (arith, v.ok.0, c.requires.to)) read (subst (λ (bank : Vec ℕ). bank.cap ≤ row.cap) (sym c.index-low-to.is) c.copy_bytes-else-from-to.ensures.capacity)
