-- Rows with fields replaced.
use Rattle.std.proofs.Common.{◌≡◌, refl, sym, ap, ◌∙◌, Bool, true, false}
use Rattle.std.specs.Prelude.{if◌then◌else◌}
use mathlib.Core.Bool.{true≢false}
use Rattle.fx_base.specs.Text.{same_text}
use Rattle.fx_types.specs.Term.{Label}
use Rattle.fx_types.specs.Ground.{GroundField, GroundRow}
use Rattle.fx_types.proofs.Choices.{by_cases, chosen, passed}
use Rattle.fx_types.proofs.RowSums.{same_is, same_itself}
use Rattle.fx_schemes.specs.Line.{replaced}

-- of two tests the first fails, and the second holds
pub not_first : (c b : Bool) → (if c then false else b) ≡ true → c ≡ false
not_first true b e = absurd (true≢false (sym e))
not_first false b e = refl

pub not_more : (c b : Bool) → (if c then false else b) ≡ true → b ≡ true
not_more true b e = absurd (true≢false (sym e))
not_more false b e = e

pub same_row : (r q : GroundRow) → ((l : Label) → r l ≡ q l) → r ≡ q
same_row r q h = λ i l. h l i

-- R{x: f} has f at x
pub has_put : (x : Label) (f : GroundField) (r : GroundRow) → replaced x f r x ≡ f
has_put x f r = chosen (same_text x x) f (r x) (same_itself x)

-- R has f at x already
pub put_same : (x : Label) (f : GroundField) (r : GroundRow) → r x ≡ f → r ≡ replaced x f r
put_same x f r h =
    same_row r (replaced x f r) (λ l. by_cases (same_text l x)
    (λ e. ap r (same_is l x e) ∙ h ∙ sym (chosen (same_text l x) f (r l) e))
    (λ e. sym (passed (same_text l x) f (r l) e)))

-- what hangs on R is the same with f put at x, where it is already
pub moved : {A : Type 0} (x : Label) (f : GroundField) (r : GroundRow) (F : GroundRow → A) → r x ≡ f → F r ≡ F (replaced x f r)
moved x f r F h = ap F (put_same x f r h)
