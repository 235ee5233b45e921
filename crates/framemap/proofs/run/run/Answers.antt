use Rattle.std.proofs.Common.{◌≡◌, ◌<◌, Result, Ok, Err, OnOk, ap, subst, sym, ◌∙◌, arith}
use Rattle.std.specs.Option.{ForSome}
use Rattle.command_line.specs.declared.outcome.Outcome.{Outcome}
use Rattle.picture_svg.specs.Pictures.{end_of_tenants, first_tenant, label_gap_of, most_columns_in}
use Rattle.picture_svg.specs.Texts.{AppendsText}
use Rattle.framemap.specs.Drawing.{IsDrawnText, IsRequestedPicture, end_drawn}
use Rattle.framemap.proofs.DrawnTenants.{drawn_is, opening_tenants}
use Rattle.framemap.proofs.run.run.Goals.{in-Ok-write, in-Err}
use Rattle.framemap.proofs.run.run.Goals as goal

on_ok : {T E P : Type 0} {x : T} (r : Result T E) → r ≡ Ok x → OnOk r P → P
on_ok (Ok x) fine h = h
on_ok (Err e) fine h = cc

pub returns-clause-events : goal.returns-clause-events
returns-clause-events g c trace is done =
    let here = on_ok c.watch.result c.in-Ok-watch.is (c.watch.ensures.watched trace is) in omega (arith, here.events)

pub returns-clause-drawn : goal.returns-clause-drawn
returns-clause-drawn g c done =
    let settings = c.args.settings.now in
    let history = c.watch.new.watched.history in
    let peaks = c.watch.new.watched.peaks in
    let picture = c.set_label_gap.new.self in
    let only = settings.machine.only in
    let tenants = c.in-Ok-new.ensures.tenants ∙ ap (λ k. k.tenants) c.in-Ok.ensures.parts ∙ opening_tenants _ _ _ in
    let below = subst (λ n. ForSome only (λ t. t < n)) (sym tenants) settings.machine.below in
    let drawn = drawn_is only _ _ _ c.in-Ok-new-2.ensures.one c.in-Ok-new-2.ensures.all below c.in-Ok-new.history.few in
    let requested : IsRequestedPicture settings picture = record {
      first = ap first_tenant c.set_label_gap.ensures ∙ drawn.0;
      end = ap end_of_tenants c.set_label_gap.ensures ∙ drawn.1 ∙ ap (λ n. end_drawn n only) tenants;
      columns = ap most_columns_in c.set_label_gap.ensures ∙ c.in-Ok-new-2.ensures.columns ∙ c.in-Ok-new.ensures.most_columns;
      gap = ap label_gap_of c.set_label_gap.ensures;
    } in
    elim c.match-write.branch [
      | in-Ok-write w ↦
          let written = subst (λ r. OnOk r (AppendsText (g.W.Write.contents c.args.writer.now) (g.W.Write.contents c.write.new.writer)
          (IsDrawnText settings history peaks picture))) w.in-Ok-write.is c.write.ensures in record {
            text = written.text;
            appended = written.appended;
            is = record {
              history = history;
              peaks = peaks;
              picture = picture;
              lines = λ trace is within.
                  let here = on_ok c.watch.result c.in-Ok-watch.is (c.watch.ensures.watched trace is) in
                  let none = c.in-Ok-new.ensures.lines in
                  omega (arith, none, here.lines (omega (arith, none, within)));
              requested = requested;
              drawn = written.is;
            };
          }
      | in-Err w ↦ let clash : Outcome.Unwritable ≡ Outcome.Done = sym w.outcome-is ∙ done in cc
    ]
