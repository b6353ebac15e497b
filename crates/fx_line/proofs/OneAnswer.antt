-- A line is answered in one way: it gives one list of points, or is refused for one reason.
use Rattle.std.proofs.Common.{◌≡◌, ℕ, Bool, true, false, not, cond, ◌⊎◌, ⊎_elim, inl, inr, List, [], length, Option, Some, None, IfNone, refl, sym, ap, ◌∙◌, subst}
use Rattle.std.proofs.lemmas.Bool.{false≢true}
use Rattle.std.proofs.lemmas.Option.{none-some}
use Rattle.fx_line.specs.declared.line.LineError.{LineError}
use Rattle.fx_line.specs.declared.line.LineError.TheVariants.{Syntax, TooManyTags, NameReserved, FloatField, UintField, IntRange, TimeRange}
use Rattle.fx_line.specs.declared.line.LineMode.{LineMode}
use Rattle.fx_line.specs.declared.line.LineRead.{LineRead}
use Rattle.fx_line.specs.declared.point.Point.{Point}
use Rattle.std.specs.Prelude.{All}
use Rattle.std.specs.Str.{IsUtf8}
use Rattle.fx_line.specs.Stored.{IsLawful}
use Rattle.std.proofs.Common.{map}
use Rattle.std.specs.List.{IsDistinct}
use Rattle.fx_base.specs.Text.{same_text}
use Rattle.fx_line.specs.Line.{Written, name_said, trimmed, is_blank, IsSpelled, IsLine, error_of, points_of, Gives, Skips, IsRefused}
use Rattle.fx_line.specs.Collected.{IsMade, IsWrong, floats_among}
use Rattle.fx_line.proofs.Spelled.{same_spelled}
use Rattle.fx_line.proofs.Lawful.{all_lawful}

same_line : (line : List ℕ) (v w : Written) → IsLine line v → IsLine line w → v ≡ w
same_line line v w g h = same_spelled (trimmed line) v w g.parts h.parts

blank_and_shown : {A : Type 0} (line : List ℕ) → is_blank (trimmed line) ≡ true → is_blank (trimmed line) ≡ false → A
blank_and_shown line b s = absurd (false≢true (sym s ∙ b))

pub same_points : (mode : LineMode) (line : List ℕ) (ps qs : List Point) → Gives mode line ps → Gives mode line qs → ps ≡ qs
same_points mode line ps qs (inl g) (inl h) = g.1 ∙ sym h.1
same_points mode line ps qs (inl g) (inr h) = blank_and_shown line g.0 h.1.shown
same_points mode line ps qs (inr g) (inl h) = blank_and_shown line h.0 g.1.shown
same_points mode line ps qs (inr g) (inr h) = g.3 ∙ ap (points_of mode) (same_line line g.0 h.0 g.1 h.1) ∙ sym h.3

pub same_skipped : (line : List ℕ) (m n : ℕ) → Skips line m → Skips line n → m ≡ n
same_skipped line m n (inl g) (inl h) = g.1 ∙ sym h.1
same_skipped line m n (inl g) (inr h) = blank_and_shown line g.0 h.1.shown
same_skipped line m n (inr g) (inl h) = blank_and_shown line h.0 g.1.shown
same_skipped line m n (inr g) (inr h) = g.2 ∙ ap (λ (w : Written). floats_among w.fields) (same_line line g.0 h.0 g.1 h.1) ∙ sym h.2

-- a refused line is of no form, or of the form with the error
abbrev HasNoForm : List ℕ → LineError → Type 0
HasNoForm line e = (e ≡ Syntax) × (is_blank (trimmed line) ≡ false) × ((w : Written) → IsLine line w → ⊥)

abbrev HasError : LineMode → List ℕ → LineError → Type 0
HasError mode line e = (w : Written) × IsLine line w × (error_of mode w ≡ Some e)

refused_as : (mode : LineMode) (line : List ℕ) (e : LineError) → IsRefused mode line e → HasNoForm line e ⊎ HasError mode line e
refused_as mode line Syntax h = inl (refl, h.0, h.1)
refused_as mode line TooManyTags h = inr h
refused_as mode line NameReserved h = inr h
refused_as mode line FloatField h = inr h
refused_as mode line UintField h = inr h
refused_as mode line IntRange h = inr h
refused_as mode line TimeRange h = inr h

given_no_form : (mode : LineMode) (line : List ℕ) (ps : List Point) (e : LineError) → Gives mode line ps → HasNoForm line e → ⊥
given_no_form mode line ps e (inl g) h = blank_and_shown line g.0 h.1
given_no_form mode line ps e (inr g) h = h.2 g.0 g.1

given_error : (mode : LineMode) (line : List ℕ) (ps : List Point) (e : LineError) → Gives mode line ps → HasError mode line e → ⊥
given_error mode line ps e (inl g) h = blank_and_shown line g.0 h.1.shown
given_error mode line ps e (inr g) h = none-some e (sym g.2 ∙ ap (error_of mode) (same_line line g.0 h.0 g.1 h.1) ∙ h.2)

pub given_refused : (mode : LineMode) (line : List ℕ) (ps : List Point) (e : LineError) → Gives mode line ps → IsRefused mode line e → ⊥
given_refused mode line ps e g h = ⊎_elim (given_no_form mode line ps e g) (given_error mode line ps e g) (refused_as mode line e h)

same_found : (mode : LineMode) (line : List ℕ) (d e : LineError) → HasError mode line d → HasError mode line e → d ≡ e
same_found mode line d e g h =
    let both : Some d ≡ Some e = sym g.2 ∙ ap (error_of mode) (same_line line g.0 h.0 g.1 h.1) ∙ h.2 in cc both

pub same_error : (mode : LineMode) (line : List ℕ) (d e : LineError) → IsRefused mode line d → IsRefused mode line e → d ≡ e
same_error mode line d e g h =
    ⊎_elim
    (λ a. ⊎_elim (λ b. a.0 ∙ sym b.0) (λ b. absurd (a.2 b.0 b.1)) (refused_as mode line e h))
    (λ a. ⊎_elim (λ b. absurd (b.2 a.0 a.1)) (λ b. same_found mode line d e a b) (refused_as mode line e h))
    (refused_as mode line d g)

-- no error of the list is Syntax
not_syntax : (a b c d e f : Bool) → cond a (Some TooManyTags) (cond b (Some NameReserved) (cond c (Some FloatField) (cond d (Some UintField) (cond e (Some IntRange) (cond (not f) (Some TimeRange) None))))) ≡ Some Syntax → ⊥
not_syntax true b c d e f h = cc h
not_syntax false true c d e f h = cc h
not_syntax false false true d e f h = cc h
not_syntax false false false true e f h = cc h
not_syntax false false false false true f h = cc h
not_syntax false false false false false false h = cc h
not_syntax false false false false false true h = cc h

pub wrong_by : (mode : LineMode) (w : Written) (e : LineError) → IsDistinct same_text (map name_said w.tags) → error_of mode w ≡ Some e → IsWrong mode w e
wrong_by mode w Syntax keys h = absurd (not_syntax _ _ _ _ _ _ h)
wrong_by mode w TooManyTags keys h = (keys, h)
wrong_by mode w NameReserved keys h = (keys, h)
wrong_by mode w FloatField keys h = (keys, h)
wrong_by mode w UintField keys h = (keys, h)
wrong_by mode w IntRange keys h = (keys, h)
wrong_by mode w TimeRange keys h = (keys, h)

-- what a line's parts tell of the line
pub line_of : (line : List ℕ) (w : Written) → is_blank (trimmed line) ≡ false → IsUtf8 line → IsSpelled (trimmed line) w → IsDistinct same_text (map name_said w.tags) → IsLine line w
line_of line w shown text parts keys = record { text = text; shown = shown; parts = parts; keys = keys }

pub wrong_refused : (mode : LineMode) (line : List ℕ) (w : Written) (e : LineError) → is_blank (trimmed line) ≡ false → IsUtf8 line → IsSpelled (trimmed line) w → IsWrong mode w e → IsRefused mode line e
wrong_refused mode line w Syntax shown text parts h =
    (shown, λ v other. h (subst (λ (u : Written). IsDistinct same_text (map name_said u.tags)) (same_spelled (trimmed line) v w other.parts parts) other.keys))
wrong_refused mode line w TooManyTags shown text parts h = (w, line_of line w shown text parts h.0, h.1)
wrong_refused mode line w NameReserved shown text parts h = (w, line_of line w shown text parts h.0, h.1)
wrong_refused mode line w FloatField shown text parts h = (w, line_of line w shown text parts h.0, h.1)
wrong_refused mode line w UintField shown text parts h = (w, line_of line w shown text parts h.0, h.1)
wrong_refused mode line w IntRange shown text parts h = (w, line_of line w shown text parts h.0, h.1)
wrong_refused mode line w TimeRange shown text parts h = (w, line_of line w shown text parts h.0, h.1)

pub no_form_refused : (mode : LineMode) (line : List ℕ) → is_blank (trimmed line) ≡ false → ((w : Written) → IsUtf8 line → IsSpelled (trimmed line) w → ⊥) → IsRefused mode line Syntax
no_form_refused mode line shown none = (shown, λ w h. none w h.text h.parts)

pub made_lawful : (mode : LineMode) (w : Written) (r : LineRead) → IsMade mode w r → All IsLawful r.points
made_lawful mode w r h = subst (All IsLawful) (sym h.points) (all_lawful mode w h.keys h.right)

-- where the bytes have no parts the text has none
pub no_parts : {A : Type 0} (line body : List ℕ) → body ≡ trimmed line → (o : Option A) → IfNone o ((w : Written) → IsSpelled body w → ⊥) → IfNone o ((w : Written) → IsUtf8 line → IsSpelled (trimmed line) w → ⊥)
no_parts line body is None h = λ w text parts. h w (subst (λ (b : List ℕ). IsSpelled b w) (sym is) parts)
no_parts line body is (Some x) h = tt
