-- What the reading of a whole list says by the grammar alone.
use Rattle.std.proofs.Common.{◌≡◌, ℕ, ◌≤◌, max, Bool, true, false, [], ◌∷◌, ◌++◌, Option, None, Some, sym, refl, ap, ◌∙◌, append_assoc, append-nil, arith}
use Rattle.fx_ast.specs.Tree.{ScriptTree}
use Rattle.fx_parse.specs.declared.item.Item.{Item}
use Rattle.fx_parse.specs.Items.{Items, first}
use Rattle.fx_parse.specs.Grammar.{IsScript}
use Rattle.fx_ast.specs.Levels.{levels}
use Rattle.fx_parse.specs.Readings.{Out, Got, Bad}
use Rattle.fx_parse.specs.Refusal.{IsRefusal}
use Rattle.fx_parse.proofs.phrases.Says.{IsRefused, Says}

-- nothing may follow a script
abbrev pub at_end : Option Item → Bool
at_end None = true
at_end (Some x) = false

abbrev pub Within : ℕ → ScriptTree → Type 0
Within most t = levels t ≤ most

pub refusal : (most : ℕ) (w : Items) (deep : Bool) (r : Items) → IsRefused IsScript (Within most) at_end w deep r → IsRefusal most w deep r
refusal most w deep r s = record {
  before = s.u;
  split = s.split;
  begins = s.begun;
  ends = λ x z e b. s.no_other (x ∷ b.0) [] ((s.u ++ (x ∷ [])) ++ b.0) b.1 (sym (ap first e)) refl b.2 (append-nil ((s.u ++ (x ∷ [])) ++ b.0) ∙ append_assoc s.u (x ∷ []) b.0) (λ d. b.3);
  short = λ e t n le. s.no_other [] [] w t (sym (ap first e)) refl n (append-nil w ∙ (s.split ∙ ap (λ z. s.u ++ z) e)) (λ d. le);
  goes_on = (s.goes_on, λ g. goes deep refl g);
}
  where
    goes : (b : Bool) → deep ≡ b → ((x : Item) × (z c : Items) × (t : ScriptTree) × (r ≡ x ∷ z) × IsScript t (s.u ++ (x ∷ c))) → deep ≡ true
    goes true e g = e
    goes false e g = absurd (s.no_other (g.0 ∷ g.2) [] (s.u ++ (g.0 ∷ g.2)) g.3 (sym (ap first g.4)) refl g.5 (append-nil (s.u ++ (g.0 ∷ g.2)))
        (λ d. absurd (let h : true ≡ false = sym d ∙ e in cc)))

module _ (read : ℕ → Items → Out ScriptTree) (script_says : (most : ℕ) → 1 ≤ most → (w : Items) → Says IsScript (Within most) at_end w (read most w)) where
  same_as : (most : ℕ) (w : Items) (o : Out ScriptTree) → Says IsScript (Within most) at_end w o → (t s : ScriptTree) → IsScript t w → IsScript s w → levels t ≤ most → levels s ≤ most → t ≡ s
  same_as most w (Got a r) z t s m n le lf =
      (z.only r [] w t refl refl m (append-nil w ∙ z.split)).0 ∙ sym (z.only r [] w s refl refl n (append-nil w ∙ z.split)).0
  same_as most w (Bad d r) z t s m n le lf = absurd (z.no_other r [] w t refl refl m (append-nil w ∙ z.split) (λ e. le))

  -- a list of items has at most one tree
  pub one_tree : (w : Items) (t s : ScriptTree) → IsScript t w → IsScript s w → t ≡ s
  one_tree w t s m n = same_as (max 1 (max (levels t) (levels s))) w (read (max 1 (max (levels t) (levels s))) w)
      (script_says (max 1 (max (levels t) (levels s))) (omega arith) w) t s m n (omega arith) (omega arith)
