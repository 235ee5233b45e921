-- The texts of the marks of refusals, and of the layers of free frames.
use Rattle.std.proofs.Common.{◌≡◌, ◌≢◌, ℕ, ◌+◌, ◌-◌, ◌*◌, ◌/◌, ◌^◌, ◌++◌, List, [], codes, flat_map, length, ap, sym, ◌∙◌, append_assoc, append-nil, ne_eqb, eq-eqb}
use Rattle.std.specs.List.{range_with_len}
use Rattle.std.specs.Fmt.{decimal}
use Rattle.std.proofs.lemmas.Bool.{cond-true, cond-false}
use Rattle.frame_picture.specs.declared.history.Column.{Column}
use Rattle.frame_picture.specs.Stacks.{free_before, free_in_column, refused_before, refused_until}
use Rattle.picture_svg.specs.declared.svg.TheConstants.{LEFT, REFUSALS, STACK, WIDTH}
use Rattle.picture_svg.specs.Marks.{depth_class, layer_text, middle_of, refusal_mark, scale_text, stack_text, turn_text}
use Rattle.picture_svg.specs.Sizes.{lower}
use Rattle.picture_svg.specs.Texts.{parts_text}

pub a_mark : (columns : List Column) (t y column x : ℕ) → refused_until columns t column - refused_before columns t column ≢ 0
    → x ≡ lower LEFT (middle_of column (length columns))
    → codes "M" ++ (decimal x ++ (codes " " ++ (decimal y ++ (codes "v" ++ decimal REFUSALS)))) ≡ refusal_mark columns t y column
unfolding refusal_mark
a_mark columns t y column x some e =
    ap (λ k. codes "M" ++ (decimal k ++ (codes " " ++ (decimal y ++ (codes "v" ++ decimal REFUSALS))))) e
    ∙ sym (cond-false _ [] _ (ne_eqb (refused_until columns t column - refused_before columns t column) 0 some))

pub no_mark : (columns : List Column) (t y column : ℕ) → refused_until columns t column - refused_before columns t column ≡ 0
    → refusal_mark columns t y column ≡ []
unfolding refusal_mark
no_mark columns t y column none = cond-true _ [] _ (eq-eqb (refused_until columns t column - refused_before columns t column) 0 none)

pub a_turn : (columns : List Column) (t k column frames : ℕ) → frames ≡ free_in_column columns t k column → frames ≢ free_before columns t k column
    → codes "H" ++ (decimal column ++ (codes "V" ++ decimal frames)) ≡ turn_text columns t k column
unfolding turn_text
a_turn columns t k column frames e other =
    ap (λ n. codes "H" ++ (decimal column ++ (codes "V" ++ decimal n))) e
    ∙ sym (cond-false _ [] _ (ne_eqb (free_in_column columns t k column) (free_before columns t k column) (λ same. other (e ∙ same))))

pub no_turn : (columns : List Column) (t k column : ℕ) → free_in_column columns t k column ≡ free_before columns t k column
    → turn_text columns t k column ≡ []
unfolding turn_text
no_turn columns t k column same = cond-true _ [] _ (eq-eqb (free_in_column columns t k column) (free_before columns t k column) same)

-- a layer, joined from its parts
abbrev layer_of : List Column → ℕ → ℕ → ℕ → List ℕ → ℕ → ℕ → List ℕ
layer_of columns t foot k class width height =
    (codes "<path class=\"cells " ++ (class ++ (codes "\" transform=\"translate(" ++ (decimal LEFT ++ (codes " " ++ (decimal foot ++ (codes ") scale("
    ++ (parts_text width ++ (codes " -" ++ (parts_text height ++ codes ")\" d=\"M0 0"))))))))))
    ++ (flat_map (turn_text columns t k) (range_with_len 0 (length columns)) ++ (codes "H" ++ (decimal (length columns) ++ codes "V0z\"/>\n")))

nested : (a b c d e f g h i j k rest : List ℕ) → (a ++ (b ++ (c ++ (d ++ (e ++ (f ++ (g ++ (h ++ (i ++ (j ++ k)))))))))) ++ rest
    ≡ a ++ (b ++ (c ++ (d ++ (e ++ (f ++ (g ++ (h ++ (i ++ (j ++ (k ++ rest))))))))))
nested a b c d e f g h i j k rest = simp append_assoc

joined : (columns : List Column) (t order foot most k : ℕ)
    → layer_of columns t foot k (depth_class (order - k)) (WIDTH * 10 ^ 8 / length columns) (STACK * 10 ^ 8 / most) ≡ layer_text columns t order foot most k
unfolding layer_text
joined columns t order foot most k =
    nested (codes "<path class=\"cells ") (depth_class (order - k)) (codes "\" transform=\"translate(") (decimal LEFT) (codes " ") (decimal foot)
    (codes ") scale(") (parts_text (WIDTH * 10 ^ 8 / length columns)) (codes " -") (parts_text (STACK * 10 ^ 8 / most)) (codes ")\" d=\"M0 0")
    (flat_map (turn_text columns t k) (range_with_len 0 (length columns)) ++ (codes "H" ++ (decimal (length columns) ++ codes "V0z\"/>\n")))

pub a_layer : (columns : List Column) (t order foot most k : ℕ) (class : List ℕ) (width height : ℕ) → class ≡ depth_class (order - k)
    → width ≡ WIDTH * 10 ^ 8 / length columns → height ≡ STACK * 10 ^ 8 / most
    → (codes "<path class=\"cells " ++ (class ++ (codes "\" transform=\"translate(" ++ (decimal LEFT ++ (codes " " ++ (decimal foot ++ (codes ") scale("
    ++ (parts_text width ++ (codes " -" ++ (parts_text height ++ codes ")\" d=\"M0 0"))))))))))
    ++ (flat_map (turn_text columns t k) (range_with_len 0 (length columns)) ++ (codes "H" ++ (decimal (length columns) ++ codes "V0z\"/>\n")))
    ≡ layer_text columns t order foot most k
a_layer columns t order foot most k class width height is_class is_width is_height =
    ap (λ x. layer_of columns t foot k x width height) is_class
    ∙ ap (λ x. layer_of columns t foot k (depth_class (order - k)) x height) is_width
    ∙ ap (λ x. layer_of columns t foot k (depth_class (order - k)) (WIDTH * 10 ^ 8 / length columns) x) is_height
    ∙ joined columns t order foot most k

pub a_stack : (columns : List Column) (t order foot most top y : ℕ) → top ≡ foot - STACK → y ≡ top - 5
    → ((codes "<text x=\"" ++ (decimal LEFT ++ (codes "\" y=\"" ++ (decimal y ++ (codes "\">free frames, at most " ++ (decimal most ++ codes "</text>\n"))))))
    ++ flat_map (layer_text columns t order foot most) (range_with_len 0 (order + 1))) ++ scale_text top foot most
    ≡ stack_text columns t order foot most
unfolding stack_text
a_stack columns t order foot most top y is_top is_y = simp (is_y, is_top, append_assoc, append-nil)
