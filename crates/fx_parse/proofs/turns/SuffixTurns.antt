-- Suffixes, one at a time.
use Rattle.std.proofs.Common.{◌≡◌, ℕ, suc, true, false, List, [], ◌∷◌, refl, ap, ◌∙◌}
use Rattle.std.specs.Prelude.{Bool, cond, nat_le, None, Some, Err}
use Rattle.fx_base.specs.declared.place.Place.{Place}
use Rattle.fx_ast.specs.Tree.{Tree, tree, int, time, span, text, pattern, name, paren, array, rec, fun, call, pipe, member, index, chain, prefix, if_then, no_parts, piece, hole}
use Rattle.fx_scan.specs.declared.symbols.Symbol.TheVariants as symbol
use Rattle.fx_parse.specs.declared.stop.Stop.{Stop}
use Rattle.fx_parse.specs.declared.stop.Stop.TheVariants as stops
use Rattle.fx_parse.specs.Cursor.{Gives}
use Rattle.fx_parse.specs.Grammar.{Suffix, put, indexed, may_end}
use Rattle.fx_parse.specs.Items.{Items, one_of, passes, first, is_symbol}
use Rattle.fx_ast.specs.Levels.{height}
use Rattle.fx_parse.specs.Measures.{plain_of}
use Rattle.fx_parse.specs.Nests.{tree_in}
use Rattle.fx_parse.specs.Readings.{Out, Got, Bad, mapped, go_on, links}
use Rattle.fx_parse.specs.ReadRuns.{read_suffix, suffix_starters, suffixes}
use Rattle.fx_parse.proofs.turns.ListTurns.{mapped_twice, mapped_same}

pub indexed_plain : (begin : Place) (t : Tree) (place : Place) (i : Tree) (s : List ℕ) → plain_of i ≡ Some s → indexed begin t place i ≡ tree begin (member t s)
indexed_plain begin t place (tree p (text (piece x no_parts))) s e = ap (λ y. tree begin (member t y)) cc
indexed_plain begin t place (tree p (int n)) s0 is = absurd (let h : None ≡ Some s0 = is in cc)
indexed_plain begin t place (tree p (time n)) s0 is = absurd (let h : None ≡ Some s0 = is in cc)
indexed_plain begin t place (tree p (span s)) s0 is = absurd (let h : None ≡ Some s0 = is in cc)
indexed_plain begin t place (tree p (pattern s)) s0 is = absurd (let h : None ≡ Some s0 = is in cc)
indexed_plain begin t place (tree p (name x)) s0 is = absurd (let h : None ≡ Some s0 = is in cc)
indexed_plain begin t place (tree p (paren e)) s0 is = absurd (let h : None ≡ Some s0 = is in cc)
indexed_plain begin t place (tree p (array es)) s0 is = absurd (let h : None ≡ Some s0 = is in cc)
indexed_plain begin t place (tree p (rec b ps)) s0 is = absurd (let h : None ≡ Some s0 = is in cc)
indexed_plain begin t place (tree p (fun ps ls e)) s0 is = absurd (let h : None ≡ Some s0 = is in cc)
indexed_plain begin t place (tree p (call e ps)) s0 is = absurd (let h : None ≡ Some s0 = is in cc)
indexed_plain begin t place (tree p (pipe e es)) s0 is = absurd (let h : None ≡ Some s0 = is in cc)
indexed_plain begin t place (tree p (member e x)) s0 is = absurd (let h : None ≡ Some s0 = is in cc)
indexed_plain begin t place (tree p (index e i)) s0 is = absurd (let h : None ≡ Some s0 = is in cc)
indexed_plain begin t place (tree p (chain e ls)) s0 is = absurd (let h : None ≡ Some s0 = is in cc)
indexed_plain begin t place (tree p (prefix s e)) s0 is = absurd (let h : None ≡ Some s0 = is in cc)
indexed_plain begin t place (tree p (if_then a b c)) s0 is = absurd (let h : None ≡ Some s0 = is in cc)
indexed_plain begin t place (tree p (text no_parts)) s0 is = absurd (let h : None ≡ Some s0 = is in cc)
indexed_plain begin t place (tree p (text (piece s (piece q ps)))) s0 is = absurd (let h : None ≡ Some s0 = is in cc)
indexed_plain begin t place (tree p (text (piece s (hole e ps)))) s0 is = absurd (let h : None ≡ Some s0 = is in cc)
indexed_plain begin t place (tree p (text (hole e ps))) s0 is = absurd (let h : None ≡ Some s0 = is in cc)

pub indexed_other : (begin : Place) (t : Tree) (place : Place) (i : Tree) → plain_of i ≡ None → indexed begin t place i ≡ tree place (index t i)
indexed_other begin t place (tree p (text (piece x no_parts))) is = absurd (let h : Some x ≡ None = is in cc)
indexed_other begin t place (tree p (int n)) is = refl
indexed_other begin t place (tree p (time n)) is = refl
indexed_other begin t place (tree p (span s)) is = refl
indexed_other begin t place (tree p (pattern s)) is = refl
indexed_other begin t place (tree p (name x)) is = refl
indexed_other begin t place (tree p (paren e)) is = refl
indexed_other begin t place (tree p (array es)) is = refl
indexed_other begin t place (tree p (rec b ps)) is = refl
indexed_other begin t place (tree p (fun ps ls e)) is = refl
indexed_other begin t place (tree p (call e ps)) is = refl
indexed_other begin t place (tree p (pipe e es)) is = refl
indexed_other begin t place (tree p (member e x)) is = refl
indexed_other begin t place (tree p (index e i)) is = refl
indexed_other begin t place (tree p (chain e ls)) is = refl
indexed_other begin t place (tree p (prefix s e)) is = refl
indexed_other begin t place (tree p (if_then a b c)) is = refl
indexed_other begin t place (tree p (text no_parts)) is = refl
indexed_other begin t place (tree p (text (piece s (piece q ps)))) is = refl
indexed_other begin t place (tree p (text (piece s (hole e ps)))) is = refl
indexed_other begin t place (tree p (text (hole e ps))) is = refl

pub ruleset indexed_node = (indexed_plain, indexed_other)

-- ---- a turn of the code's loop, for each way out of it

module _ (must_call : Bool) (begin : Place) (k l : ℕ) (inner within : Items → Out Tree) where
  room_is : (t : Tree) (w : Items) → passes (one_of suffix_starters) (first w) ≡ true
      → passes (λ x. nat_le (height t) (cond (is_symbol symbol.OpenParen x) k l)) (first w) ≡ nat_le (height t) (cond (passes (is_symbol symbol.OpenParen) (first w)) k l)
  room_is t [] e = absurd (let h : false ≡ true = e in cc)
  room_is t (x ∷ w) e = refl

  pub suffix_none : (n : ℕ) (t : Tree) (w : Items) → passes (one_of suffix_starters) (first w) ≡ false
      → links (suffixes must_call begin k l inner within) (suc n) t w ≡ cond (may_end must_call t) (Got t w) (Bad false w)
  suffix_none n t w e = rw e refl

  pub suffix_deep : (n : ℕ) (t : Tree) (w : Items) → passes (one_of suffix_starters) (first w) ≡ true
      → nat_le (height t) (cond (passes (is_symbol symbol.OpenParen) (first w)) k l) ≡ false
      → links (suffixes must_call begin k l inner within) (suc n) t w ≡ Bad true w
  suffix_deep n t w e f = rw (e, room_is t w e, f) refl

  joined : (n : ℕ) (t : Tree) (o : Out Suffix) → mapped (λ (p : Suffix × Tree). p.1) (go_on o (λ b r. mapped (λ z. (b, z)) (links (suffixes must_call begin k l inner within) n (put begin t b) r)))
      ≡ go_on (mapped (put begin t) o) (λ u r. links (suffixes must_call begin k l inner within) n u r)
  joined n t (Got b r) = mapped_twice (λ (p : Suffix × Tree). p.1) (λ z. (b, z)) (links (suffixes must_call begin k l inner within) n (put begin t b) r)
      ∙ mapped_same (links (suffixes must_call begin k l inner within) n (put begin t b) r)
  joined n t (Bad d r) = refl

  pub suffix_step : (n : ℕ) (t : Tree) (w : Items) → passes (one_of suffix_starters) (first w) ≡ true
      → nat_le (height t) (cond (passes (is_symbol symbol.OpenParen) (first w)) k l) ≡ true
      → links (suffixes must_call begin k l inner within) (suc n) t w ≡ go_on (mapped (put begin t) (read_suffix k inner within w)) (λ u r. links (suffixes must_call begin k l inner within) n u r)
  suffix_step n t w e f = rw (e, room_is t w e, f) (joined n t (read_suffix k inner within w))

  pub suffix_next : (n : ℕ) (t u : Tree) (w r : Items) → passes (one_of suffix_starters) (first w) ≡ true
      → nat_le (height t) (cond (passes (is_symbol symbol.OpenParen) (first w)) k l) ≡ true → mapped (put begin t) (read_suffix k inner within w) ≡ Got u r
      → links (suffixes must_call begin k l inner within) (suc n) t w ≡ links (suffixes must_call begin k l inner within) n u r
  suffix_next n t u w r e f is = suffix_step n t w e f ∙ ap (λ o. go_on o (λ u r. links (suffixes must_call begin k l inner within) n u r)) is

  pub suffix_fail : (n : ℕ) (t : Tree) (w : Items) (stop : Stop) (r : Items) → passes (one_of suffix_starters) (first w) ≡ true
      → nat_le (height t) (cond (passes (is_symbol symbol.OpenParen) (first w)) k l) ≡ true → Gives tree_in (mapped (put begin t) (read_suffix k inner within w)) (Err stop) r
      → Gives tree_in (links (suffixes must_call begin k l inner within) (suc n) t w) (Err stop) r
  suffix_fail n t w (stops.Refused d) r e f is = suffix_step n t w e f ∙ ap (λ o. go_on o (λ u r. links (suffixes must_call begin k l inner within) n u r)) is
  suffix_fail n t w stops.Memory r e f is = is
