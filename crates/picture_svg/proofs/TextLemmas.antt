-- Texts that are joined from parts.
use Rattle.std.proofs.Common.{◌≡◌, ℕ, ◌+◌, ◌-◌, List, [], ◌∷◌, ◌++◌, Option, codes, ap, ◌∙◌, append_assoc, append-nil}
use Rattle.std.specs.Fmt.{decimal}
use Rattle.std.specs.List.{concat}
use Rattle.picture_svg.specs.declared.svg.TheConstants.{ABOVE, LEFT}
use Rattle.picture_svg.specs.Sizes.{lower}
use Rattle.picture_svg.specs.Texts.{figures_text, name_text, title_text}

-- appending a text to twelve joined texts gives the thirteen texts joined
twelve : (a b c d e f g h i j k l rest : List ℕ) → (a ++ (b ++ (c ++ (d ++ (e ++ (f ++ (g ++ (h ++ (i ++ (j ++ (k ++ l))))))))))) ++ rest
    ≡ a ++ (b ++ (c ++ (d ++ (e ++ (f ++ (g ++ (h ++ (i ++ (j ++ (k ++ (l ++ rest)))))))))))
twelve a b c d e f g h i j k l rest = simp append_assoc

-- the parts of a band, appended one after another, give the text in the definition of a band
pub band_parts : (a b c d e f g h i : List ℕ) → (((((((a ++ b) ++ c) ++ d) ++ e) ++ f) ++ g) ++ h) ++ i
    ≡ concat (a ∷ b ∷ c ∷ d ∷ (e ++ f) ∷ g ∷ h ∷ i ∷ [])
band_parts a b c d e f g h i = simp (append_assoc, append-nil)

figures_of : ℕ → ℕ → ℕ → ℕ → ℕ → List ℕ
figures_of taken held most refused y = (codes "<text x=\"" ++ (decimal (LEFT + 90) ++ (codes "\" y=\"" ++ (decimal y ++ (codes "\">at the end "
    ++ (decimal taken ++ (codes " of " ++ (decimal held ++ (codes " frames taken; at most " ++ (decimal most
    ++ (codes " taken; refused for want of frames: " ++ decimal refused))))))))))) ++ codes "</text>\n"

pub figures_is : (taken held most refused y top taken' held' refused' : ℕ) → taken ≡ taken' → held ≡ held' → refused ≡ refused' → y ≡ lower top (ABOVE - 8)
    → (codes "<text x=\"" ++ (decimal (LEFT + 90) ++ (codes "\" y=\"" ++ (decimal y ++ (codes "\">at the end "
    ++ (decimal taken ++ (codes " of " ++ (decimal held ++ (codes " frames taken; at most " ++ (decimal most
    ++ (codes " taken; refused for want of frames: " ++ decimal refused))))))))))) ++ codes "</text>\n" ≡ figures_text taken' held' most refused' top
unfolding figures_of figures_text
figures_is taken held most refused y top taken' held' refused' is_taken is_held is_refused is_y =
    ap (λ n. figures_of n held most refused y) is_taken ∙ ap (λ n. figures_of taken' n most refused y) is_held
    ∙ ap (λ n. figures_of taken' held' most n y) is_refused ∙ ap (λ n. figures_of taken' held' most refused' n) is_y
    ∙ twelve (codes "<text x=\"") (decimal (LEFT + 90)) (codes "\" y=\"") (decimal (lower top (ABOVE - 8))) (codes "\">at the end ") (decimal taken')
    (codes " of ") (decimal held') (codes " frames taken; at most ") (decimal most) (codes " taken; refused for want of frames: ") (decimal refused')
    (codes "</text>\n")

-- the parts of a title, appended one after another, give the text in the definition of a title
title_parts : (a b c d e n rest : List ℕ) → ((a ++ (b ++ (c ++ (d ++ e)))) ++ n) ++ rest ≡ a ++ (b ++ (c ++ (d ++ (e ++ (n ++ rest)))))
title_parts a b c d e n rest = simp append_assoc

title_of : List ℕ → ℕ → ℕ → ℕ → ℕ → List ℕ
title_of name lines superblocks frames width = ((codes "<text class=\"head\" x=\"" ++ (decimal LEFT ++ (codes "\" y=\"30\">Frames over " ++ (decimal lines
    ++ codes " lines of ")))) ++ name) ++ (codes "</text>\n<text x=\"" ++ (decimal LEFT ++ (codes "\" y=\"50\">Superblocks: " ++ (decimal superblocks
    ++ (codes ", of " ++ (decimal frames ++ (codes " frames each. Lines to a column: " ++ (decimal width
    ++ codes "; it shows the machine after the last of them.</text>\n"))))))))

pub title_is : (name : Option (List ℕ)) (lines superblocks frames width lines' superblocks' frames' width' : ℕ) → lines ≡ lines' → superblocks ≡ superblocks'
    → frames ≡ frames' → width ≡ width'
    → ((codes "<text class=\"head\" x=\"" ++ (decimal LEFT ++ (codes "\" y=\"30\">Frames over " ++ (decimal lines
    ++ codes " lines of ")))) ++ name_text name) ++ (codes "</text>\n<text x=\"" ++ (decimal LEFT ++ (codes "\" y=\"50\">Superblocks: " ++ (decimal superblocks
    ++ (codes ", of " ++ (decimal frames ++ (codes " frames each. Lines to a column: " ++ (decimal width
    ++ codes "; it shows the machine after the last of them.</text>\n")))))))) ≡ title_text lines' name superblocks' frames' width'
unfolding title_of title_text
title_is name lines superblocks frames width lines' superblocks' frames' width' is_lines is_superblocks is_frames is_width =
    ap (λ n. title_of (name_text name) n superblocks frames width) is_lines ∙ ap (λ n. title_of (name_text name) lines' n frames width) is_superblocks
    ∙ ap (λ n. title_of (name_text name) lines' superblocks' n width) is_frames ∙ ap (λ n. title_of (name_text name) lines' superblocks' frames' n) is_width
    ∙ title_parts (codes "<text class=\"head\" x=\"") (decimal LEFT) (codes "\" y=\"30\">Frames over ") (decimal lines') (codes " lines of ") (name_text name)
    (codes "</text>\n<text x=\"" ++ (decimal LEFT ++ (codes "\" y=\"50\">Superblocks: " ++ (decimal superblocks'
    ++ (codes ", of " ++ (decimal frames' ++ (codes " frames each. Lines to a column: " ++ (decimal width'
    ++ codes "; it shows the machine after the last of them.</text>\n"))))))))
