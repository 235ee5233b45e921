use Rattle.std.proofs.Common.{◌≡◌, ◌++◌, min, codes, ap, sym, arith}
use Rattle.std.specs.Fmt.{decimal, digits}
use Rattle.picture_svg.proofs.svg.depth_class.Goals as goal

pub returns-in-0 : goal.returns-in-0
unfolding digits
returns-in-0 c = ap (λ n. codes "d" ++ decimal (min n 8)) (sym c.in-0.is)

pub returns-in-1 : goal.returns-in-1
unfolding digits
returns-in-1 c = ap (λ n. codes "d" ++ decimal (min n 8)) (sym c.in-1.is)

pub returns-in-2 : goal.returns-in-2
unfolding digits
returns-in-2 c = ap (λ n. codes "d" ++ decimal (min n 8)) (sym c.in-2.is)

pub returns-in-3 : goal.returns-in-3
unfolding digits
returns-in-3 c = ap (λ n. codes "d" ++ decimal (min n 8)) (sym c.in-3.is)

pub returns-in-4 : goal.returns-in-4
unfolding digits
returns-in-4 c = ap (λ n. codes "d" ++ decimal (min n 8)) (sym c.in-4.is)

pub returns-in-5 : goal.returns-in-5
unfolding digits
returns-in-5 c = ap (λ n. codes "d" ++ decimal (min n 8)) (sym c.in-5.is)

pub returns-in-6 : goal.returns-in-6
unfolding digits
returns-in-6 c = ap (λ n. codes "d" ++ decimal (min n 8)) (sym c.in-6.is)

pub returns-in-7 : goal.returns-in-7
unfolding digits
returns-in-7 c = ap (λ n. codes "d" ++ decimal (min n 8)) (sym c.in-7.is)

pub returns-in_default : goal.returns-in_default
unfolding digits
returns-in_default c = let most : min c.args.depth 8 ≡ 8 = omega arith in ap (λ n. codes "d" ++ decimal n) (sym most)
