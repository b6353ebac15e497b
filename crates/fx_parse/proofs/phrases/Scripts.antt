-- Readings of lists of statements, of imports, and of a whole script.
use Rattle.std.proofs.Common.{◌≡◌, ℕ, zero, suc, ◌≤◌, ◌<◌, ◌&&◌, max, Bool, true, false, cond, List, [], ◌∷◌, ◌++◌, length, Option, None, Some, sym, refl, ap, ◌∙◌, subst, append_assoc, append-nil, arith, length-append}
use Rattle.std.proofs.lemmas.Bool.{cond_both, both_ways, and_parts, not-true}
use Rattle.fx_ast.specs.Tree.{Tree, import, StatementTree, ScriptTree}
use Rattle.fx_scan.specs.declared.words.Word.TheVariants as word
use Rattle.fx_parse.specs.declared.item.Item.{Item}
use Rattle.fx_parse.specs.declared.item.Lexeme.TheVariants.{Plain}
use Rattle.fx_parse.specs.Items.{Items, a_name, a_plain, a_word, first, passes, one_of, label, is_name, is_plain, is_word}
use Rattle.fx_parse.specs.Grammar.{IsTok, IsStatement, IsStatements, statements_end, statements_next, joins, IsImport, import_bare, import_as, IsImports, imports_end, imports_next, IsScript, no_package, a_package}
use Rattle.fx_ast.specs.Levels.{in_form, in_statements}
use Rattle.fx_parse.specs.Readings.{Out, Got, Bad, mapped, both, token}
use Rattle.fx_parse.specs.ReadScripts.{read_statement, read_statements, read_import, read_imports, read_script}
use Rattle.fx_parse.proofs.phrases.Both.{Pair, OkPair, says_both, says_same}
use Rattle.fx_parse.proofs.phrases.Far.{says_mapped, says_placed}
use Rattle.fx_parse.proofs.phrases.Says.{Says, Fine, any_stop, says_token}
use Rattle.fx_parse.proofs.phrases.Statements.{stop, statement_starters, statement_first, fresh_follows, says_statement}
use Rattle.fx_parse.proofs.phrases.Stops.{without, may_follow, front_passes, says_within}
use Rattle.fx_parse.proofs.phrases.Then.{Low_of, Reads, any_of, says_then}
use Rattle.fx_parse.proofs.sorts.Toks.{item, a_word_item, some_name, may_apart}
use Rattle.fx_parse.proofs.outcome.Top.{at_end, Within}

-- ---- lists of statements

-- statements, after another or not
Further : Bool → List StatementTree → Items → Type 0
Further follows ss w = IsStatements ss w × (follows ≡ true → passes joins (first w) ≡ false)

abbrev LowStatements : ℕ → List StatementTree → Type 0
LowStatements k ss = in_statements ss ≤ k

nothing_left : (v : Items) → at_end (first v) ≡ true → v ≡ []
nothing_left [] e = refl
nothing_left (x ∷ v) e = absurd (let h : false ≡ true = e in cc)

none_further : (b : Bool) → Further b [] []
unfolding Further
none_further b = (statements_end, λ e. refl)

low_further : (k : ℕ) (b : Bool) → Low_of (Further b) (LowStatements k)
low_further k b = ([], [], none_further b, (let h : 0 ≤ k = omega arith in h))

statement_some : (s : StatementTree) → IsStatement s [] → ⊥
statement_some s n = let h : false ≡ true = statement_first s [] [] n in cc

statements_nil : (ss : List StatementTree) → IsStatements ss [] → ss ≡ []
statements_nil _ statements_end = refl
statements_nil _ (statements_next {s = s} [] v n f m q) = absurd (statement_some s n)
statements_nil _ (statements_next (x ∷ u) v n f m q) = absurd (let h : [] ≡ x ∷ (u ++ v) = q in cc)

front_nil : (u v : Items) → u ++ v ≡ [] → u ≡ []
front_nil [] v e = refl
front_nil (x ∷ u) v e = absurd (let h : x ∷ (u ++ v) ≡ [] = e in cc)

first_nil : (c : Items) → first c ≡ None → c ≡ []
first_nil [] e = refl
first_nil (x ∷ c) e = absurd (let h : Some x ≡ None = e in cc)

-- what begins statements that aren't none
statements_first : (ss : List StatementTree) (u v : Items) → IsStatements ss u → at_end (first v) ≡ true → (x : Item) → first (u ++ v) ≡ Some x → one_of statement_starters x ≡ true
statements_first _ _ v statements_end e x ef = absurd (let h : first v ≡ None = ap first (nothing_left v e) in let g : Some x ≡ None = sym ef ∙ h in cc)
statements_first _ u v (statements_next {s = s} a b n f m q) e x ef =
    ap (passes (one_of statement_starters)) (sym ef ∙ ap first (ap (λ z. z ++ v) q ∙ append_assoc a b v)) ∙ statement_first s a (b ++ v) n

-- the whole begins where its first statement does
first_whole : (s : StatementTree) (u a b v : Items) → u ≡ a ++ b → IsStatement s a → first u ≡ first (u ++ v)
first_whole s u [] b v q n = absurd (statement_some s n)
first_whole s [] (x ∷ a) b v q n = absurd (let h : [] ≡ x ∷ (a ++ b) = q in cc)
first_whole s (y ∷ u) (x ∷ a) b v q n = refl

further_follows : (ss : List StatementTree) (v z : Items) → Further true ss v → at_end (first z) ≡ true → stop (first (v ++ z)) ≡ true
unfolding Further
further_follows ss v z n e = follows ss v n.0 (n.1 refl)
  where
    follows : (ss : List StatementTree) (v : Items) → IsStatements ss v → passes joins (first v) ≡ false → stop (first (v ++ z)) ≡ true
    follows _ _ statements_end f = ap (λ w. stop (first w)) (nothing_left z e)
    follows _ v (statements_next {s = s} a b n g m q) f =
        fresh_follows (first (v ++ z)) (ap (λ w. passes (one_of statement_starters) (first w)) (ap (λ w. w ++ z) q ∙ append_assoc a b z) ∙ statement_first s a (b ++ z) n)
        (ap (passes joins) (sym (first_whole s v a b z q n)) ∙ f)

-- ---- one import

abbrev imports : Item → Bool
imports = is_word word.Import

import_tok : IsTok imports (a_word_item word.Import) (a_word_item word.Import ∷ [])
unfolding one_of
import_tok = (refl, refl)

abbrev plain_item : Item
plain_item = item (Plain [])

plain_tok : IsTok is_plain plain_item (plain_item ∷ [])
unfolding one_of
plain_tok = (refl, refl)

name_passes : is_name some_name ≡ true
unfolding one_of
name_passes = refl

-- the name before a path, or none
data IsAlias : Option (List ℕ) → Items → Type 0 where
  no_alias : IsAlias None []
  an_alias : {w : Items} (y : Item) → IsTok is_name y w → IsAlias (Some (label y)) w

abbrev read_alias : Items → Out (Option (List ℕ))
read_alias r = cond (passes is_name (first r)) (mapped (λ y. Some (label y)) (token is_name r)) (Got None r)

abbrev no_name : Option Item → Bool
no_name = without (a_name ∷ [])

alias_says : (w : Items) → Says IsAlias Fine no_name w (read_alias w)
alias_says w = cond_both (passes is_name (first w)) _ _ (Says IsAlias Fine no_name w)
    (λ e. says_mapped (IsTok is_name) IsAlias Fine Fine no_name (λ y. Some (label y)) w
    (record { into = λ y u t. an_alias y t; back = λ a u v ef st n. back a u v e ef st n; fit = λ y u t o. tt; unfit = λ y u t o. tt })
    (token is_name w)
    (says_same (IsTok is_name) (IsTok is_name) Fine Fine any_stop no_name (record { into = λ t u n. n; back = λ t u n. n; fit = λ t o. o; unfit = λ t o. o; ends = λ o h. refl }) w (token is_name w)
    (says_token is_name some_name name_passes w)))
    (λ e. record { u = []; split = refl; phrase = no_alias; fits = tt; only = λ c v u' a ef st n eq. only a u' v c e ef eq n })
  where
    back : (a : Option (List ℕ)) (u v : Items) → passes is_name (first w) ≡ true → first (u ++ v) ≡ first w → no_name (first v) ≡ true → IsAlias a u → (y : Item) × (a ≡ Some (label y)) × IsTok is_name y u
    back _ _ v e ef st no_alias = absurd (both_ways (passes is_name (first v)) (not-true (passes is_name (first v)) st) (ap (passes is_name) ef ∙ e))
    back _ u v e ef st (an_alias y t) = (y, refl, t)

    only : (a : Option (List ℕ)) (u v c : Items) → passes is_name (first w) ≡ false → first c ≡ first w → u ++ v ≡ c → IsAlias a u → (a ≡ None) × (u ≡ [])
    only _ _ v c e ef eq no_alias = (refl, refl)
    only _ u v c e ef eq (an_alias y t) = absurd (both_ways (passes is_name (first w)) e (ap (passes is_name) (sym ef ∙ ap first (sym eq)) ∙ front_passes is_name y u [] u v t (sym (append-nil u))))

abbrev AfterImport : Option (List ℕ) × Item → Items → Type 0
AfterImport = Pair IsAlias (λ a. IsTok is_plain)

import_back : (s : StatementTree) (u : Items) → IsImport s u
    → (p : Item × (Option (List ℕ) × Item)) × (s ≡ record { place = p.0.place; form = import p.1.0 (label p.1.1) }) × Pair (IsTok imports) (λ x. AfterImport) p u
import_back _ u (import_bare x y i j t h q) = ((x, (None, y)), refl, (i, j, t, ([], j, no_alias, h, refl), q))
import_back _ u (import_as x y z i j l t h m q) = ((x, (Some (label y), z)), refl, (i, j ++ l, t, (j, l, an_alias y h, m, refl), q))

import_into : (x : Item) (a : Option (List ℕ)) (z : Item) (u i r j l : Items) → IsTok imports x i → IsAlias a j → IsTok is_plain z l → r ≡ j ++ l → u ≡ i ++ r
    → IsImport (record { place = x.place; form = import a (label z) }) u
import_into x _ z u i r j l t no_alias m p q = import_bare x z i l t m (q ∙ ap (λ s. i ++ s) p)
import_into x _ z u i r j l t (an_alias y h) m p q = import_as x y z i j l t h m (q ∙ ap (λ s. i ++ s) p)

says_import : (w : Items) → Says IsImport Fine any_stop w (read_import w)
unfolding read_import
says_import w = says_mapped (Pair (IsTok imports) (λ x. AfterImport)) IsImport (OkPair Fine (λ x. OkPair Fine (λ a. Fine))) Fine any_stop (λ p. record { place = p.0.place; form = import p.1.0 (label p.1.1) }) w
    (record {
      into = λ p u q. import_into p.0 p.1.0 p.1.1 u q.0 q.1 q.3.0 q.3.1 q.2 q.3.2 q.3.3 q.3.4 q.4;
      back = λ s u v ef st n. import_back s u n;
      fit = λ p u q o. tt;
      unfit = λ p u q o. (tt, (tt, tt));
    })
    (both (token imports) (λ x. both read_alias (λ a. token is_plain)) w)
    (says_then imports (a_word_item word.Import) import_tok.0 (λ x. AfterImport) (λ x. OkPair Fine (λ a. Fine)) any_stop
    (λ x. (plain_item ∷ [], (None, plain_item), ([], plain_item ∷ [], no_alias, plain_tok, refl), (tt, tt))) (λ x. both read_alias (λ a. token is_plain)) w
    (λ x r t less. says_both IsAlias (λ a. IsTok is_plain) Fine (λ a. Fine) no_name any_stop
    (record {
      follow = λ a y v z h st. may_follow (a_plain ∷ []) (a_name ∷ []) (first (v ++ z)) refl (front_passes is_plain y v [] v z h (sym (append-nil v)));
      some = λ a u n o. (plain_item ∷ [], plain_item, plain_tok, tt);
      any = λ a. (plain_item ∷ [], plain_item, plain_tok);
    })
    r (read_alias r) (λ a. token is_plain) (alias_says r) (λ a z i. says_token is_plain plain_item plain_tok.0 z)))

import_first : (s : StatementTree) (u a b v : Items) → u ≡ a ++ b → IsImport s a → passes imports (first (u ++ v)) ≡ true
import_first s u a b v q n = ap (λ z. passes imports (first z)) (ap (λ z. z ++ v) q ∙ append_assoc a b v) ∙ (let p = import_back s a n in front_passes imports p.0.0 p.2.0 p.2.1 a (b ++ v) p.2.2 p.2.4)

-- no statement is an import
first_import : (ss : List StatementTree) (u v : Items) → IsStatements ss u → at_end (first v) ≡ true → passes imports (first (u ++ v)) ≡ true → ⊥
first_import _ _ v statements_end st e = let h : false ≡ true = ap (λ z. passes imports (first z)) (sym (nothing_left v st)) ∙ e in cc
first_import _ u v (statements_next {s = s} a b n f m q) st e = may_apart statement_starters (a_word word.Import ∷ []) (first (u ++ v)) refl
    (ap (λ z. passes (one_of statement_starters) (first z)) (ap (λ z. z ++ v) q ∙ append_assoc a b v) ∙ statement_first s a (b ++ v) n) e

-- nor begin imports with a package clause
imports_unpacked : (ss : List StatementTree) (u v : Items) → IsImports ss u → at_end (first v) ≡ true → passes (is_word word.Package) (first (u ++ v)) ≡ true → ⊥
imports_unpacked _ u v (imports_end n) st e = statements_unpacked _ u v n st e
  where
    statements_unpacked : (ss : List StatementTree) (u v : Items) → IsStatements ss u → at_end (first v) ≡ true → passes (is_word word.Package) (first (u ++ v)) ≡ true → ⊥
    statements_unpacked _ _ v statements_end st e = let h : false ≡ true = ap (λ z. passes (is_word word.Package) (first z)) (sym (nothing_left v st)) ∙ e in cc
    statements_unpacked _ u v (statements_next {s = s} a b n f m q) st e = may_apart statement_starters (a_word word.Package ∷ []) (first (u ++ v)) refl
        (ap (λ z. passes (one_of statement_starters) (first z)) (ap (λ z. z ++ v) q ∙ append_assoc a b v) ∙ statement_first s a (b ++ v) n) e
imports_unpacked _ u v (imports_next {s = s} a b n m q) st e = may_apart (a_word word.Import ∷ []) (a_word word.Package ∷ []) (first (u ++ v)) refl (import_first s u a b v q n) e

module _ (k : ℕ) (expr : Items → Out Tree) (reads : Reads k expr) (some : 1 ≤ k) where
  end_says : (b : Bool) → Says (Further b) (LowStatements k) at_end [] (Got [] [])
  unfolding Further
  end_says b = record {
    u = [];
    split = refl;
    phrase = none_further b;
    fits = (let h : 0 ≤ k = omega arith in h);
    only = λ c v u' t' ef st ph eq.
        let none = front_nil u' v (eq ∙ first_nil c ef) in
        (statements_nil t' (subst (λ z. IsStatements t' z) none ph.0), none);
  }

  -- a statement that may not follow
  joined_says : (b : Bool) (x : Item) (w : Items) → b ≡ true → joins x ≡ true → Says (Further b) (LowStatements k) at_end (x ∷ w) (Bad false (x ∷ w))
  unfolding Further
  joined_says b x w e f = record {
    u = [];
    split = refl;
    begun = low_further k b;
    goes_on = λ d. absurd (let h : false ≡ true = d in cc);
    no_other = λ c v u' t' ef st ph eq g. none u' v c eq ef st (ph.1 e);
  }
    where
      none : (u v c : Items) → u ++ v ≡ c → first c ≡ Some x → at_end (first v) ≡ true → passes joins (first u) ≡ false → ⊥
      none [] v c eq ef st h = let a : first v ≡ Some x = ap first eq ∙ ef in let b : first v ≡ None = ap first (nothing_left v st) in let d : Some x ≡ None = sym a ∙ b in cc
      none (y ∷ u) v c eq ef st h = both_ways (joins x) (let a : Some y ≡ Some x = ap first eq ∙ ef in ap (passes joins) (sym a) ∙ h) f

  next_says : (b : Bool) (x : Item) (w : Items) (n : ℕ) → ((r : Items) → length r < length (x ∷ w) → Says (Further true) (LowStatements k) at_end r (read_statements expr n true r))
      → (b && joins x) ≡ false → Says (Further b) (LowStatements k) at_end (x ∷ w) (mapped (λ p. p.0 ∷ p.1) (both (read_statement expr) (λ s. read_statements expr n true) (x ∷ w)))
  unfolding Further
  next_says b x w n next e = says_placed (Pair IsStatement (λ s. Further true)) (Further b) (OkPair (λ s. in_form s.form ≤ k) (λ s. LowStatements k)) (LowStatements k) at_end (λ p. p.0 ∷ p.1) (x ∷ w)
      (record {
        into = λ p u v ef q. (statements_next q.0 q.1 q.2 (q.3.1 refl) q.3.0 q.4, λ f. apart p.0 u q.0 q.1 v q.4 q.2 ef f);
        back = λ ss u v ef st h. back ss u v ef st h.0;
        fit = λ p u q o. (let a : in_form p.0.form ≤ k = o.0 in let c : in_statements p.1 ≤ k = o.1 in omega arith);
        unfit = λ p u q o. (let a : max (in_form p.0.form) (in_statements p.1) ≤ k = o in (omega arith, omega arith));
        some = low_further k b;
      })
      (both (read_statement expr) (λ s. read_statements expr n true) (x ∷ w))
      (says_both IsStatement (λ s. Further true) (λ s. in_form s.form ≤ k) (λ s. LowStatements k) stop at_end
      (record { follow = λ s ss v z h st. further_follows ss v z h st; some = λ s u h o. low_further k true; any = λ s. any_of (Further true) (LowStatements k) (low_further k true) })
      (x ∷ w) (read_statement expr (x ∷ w)) (λ s. read_statements expr n true) (says_statement k expr reads some (x ∷ w))
      (λ s r i. next r (shorter s i.u r i.phrase i.split)))
    where
      shorter : (s : StatementTree) (u r : Items) → IsStatement s u → x ∷ w ≡ u ++ r → length r < length (x ∷ w)
      shorter s [] r h q = absurd (statement_some s h)
      shorter s (y ∷ u) r h q = let long = ap length q in omega (arith, length-append u r)

      apart : (s : StatementTree) (u c d v : Items) → u ≡ c ++ d → IsStatement s c → first (u ++ v) ≡ Some x → b ≡ true → passes joins (first u) ≡ false
      apart s u c d v q h ef f = ap (passes joins) (first_whole s u c d v q h ∙ ef) ∙ (let g = rw f at e in g)

      back : (ss : List StatementTree) (u v : Items) → first (u ++ v) ≡ Some x → at_end (first v) ≡ true → IsStatements ss u
          → (p : StatementTree × List StatementTree) × (ss ≡ p.0 ∷ p.1) × Pair IsStatement (λ s. Further true) p u
      back _ _ v ef st statements_end = absurd (let h : first v ≡ None = ap first (nothing_left v st) in let g : Some x ≡ None = sym ef ∙ h in cc)
      back _ u v ef st (statements_next {s = s} {ss = ss} c d h f m q) = ((s, ss), refl, (c, d, h, (m, λ t. f), q))

  says_statements : (n : ℕ) (b : Bool) (w : Items) → length w ≤ n → Says (Further b) (LowStatements k) at_end w (read_statements expr n b w)
  unfolding read_statements
  says_statements n b [] short = end_says b
  says_statements zero b (x ∷ w) short = absurd (let h : suc (length w) ≤ 0 = short in omega arith)
  says_statements (suc n) b (x ∷ w) short = cond_both (b && joins x) _ _ (Says (Further b) (LowStatements k) at_end (x ∷ w))
      (λ e. (let p = and_parts b (joins x) e in joined_says b x w p.0 p.1))
      (next_says b x w n (λ r less. says_statements n true r (let h : suc (length w) ≤ suc n = short in let g : length r < suc (length w) = less in omega arith)))

  -- ---- imports

  low_imports : Low_of IsImports (LowStatements k)
  low_imports = ([], [], imports_end statements_end, (let h : 0 ≤ k = omega arith in h))

  -- no import first
  plain_says : (w : Items) → passes imports (first w) ≡ false → Says IsImports (LowStatements k) at_end w (read_statements expr (length w) false w)
  unfolding Further
  plain_says w e = says_within (Further false) IsImports (LowStatements k) at_end w (λ ss u n. imports_end n.0) back (read_statements expr (length w) false w)
      (says_statements (length w) false w (omega arith))
    where
      back : (ss : List StatementTree) (u v : Items) → first (u ++ v) ≡ first w → at_end (first v) ≡ true → IsImports ss u → Further false ss u
      back ss u v ef st (imports_end n) = (n, λ f. absurd (let h : false ≡ true = f in cc))
      back _ u v ef st (imports_next {s = s} a b n m q) = absurd (both_ways (passes imports (first w)) e (ap (passes imports) (sym ef) ∙ import_first s u a b v q n))

  import_says : (w : Items) (again : Items → Out (List StatementTree)) → passes imports (first w) ≡ true → ((r : Items) → length r < length w → Says IsImports (LowStatements k) at_end r (again r))
      → Says IsImports (LowStatements k) at_end w (mapped (λ p. p.0 ∷ p.1) (both read_import (λ s. again) w))
  import_says w again e next = says_mapped (Pair IsImport (λ s. IsImports)) IsImports (OkPair Fine (λ s. LowStatements k)) (LowStatements k) at_end (λ p. p.0 ∷ p.1) w
      (record {
        into = λ p u q. imports_next q.0 q.1 q.2 q.3 q.4;
        back = back;
        fit = λ p u q o. import_low p.0 q.0 p.1 q.2 o.1;
        unfit = λ p u q o. (tt, low_import p.0 q.0 p.1 q.2 o);
      })
      (both read_import (λ s. again) w)
      (says_both IsImport (λ s. IsImports) Fine (λ s. LowStatements k) any_stop at_end
      (record { follow = λ s ss v z h st. refl; some = λ s u h o. low_imports; any = λ s. any_of IsImports (LowStatements k) low_imports })
      w (read_import w) (λ s. again) (says_import w) (λ s r i. next r (shorter s i.u r i.phrase i.split)))
    where
      shorter : (s : StatementTree) (u r : Items) → IsImport s u → w ≡ u ++ r → length r < length w
      shorter s [] r h q = absurd (let g : false ≡ true = import_first s [] [] [] [] refl h in cc)
      shorter s (y ∷ u) r h q = let long = ap length q in omega (arith, length-append u r)

      import_low : (s : StatementTree) (u : Items) (ss : List StatementTree) → IsImport s u → in_statements ss ≤ k → in_statements (s ∷ ss) ≤ k
      import_low _ u ss (import_bare x y i j t h q) o = omega arith
      import_low _ u ss (import_as x y z i j l t h m q) o = omega arith

      low_import : (s : StatementTree) (u : Items) (ss : List StatementTree) → IsImport s u → in_statements (s ∷ ss) ≤ k → in_statements ss ≤ k
      low_import s u ss n o = let h : max (in_form s.form) (in_statements ss) ≤ k = o in omega arith

      back : (ss : List StatementTree) (u v : Items) → first (u ++ v) ≡ first w → at_end (first v) ≡ true → IsImports ss u
          → (p : StatementTree × List StatementTree) × (ss ≡ p.0 ∷ p.1) × Pair IsImport (λ s. IsImports) p u
      back ss u v ef st (imports_end n) = absurd (first_import ss u v n st (ap (passes imports) ef ∙ e))
      back _ u v ef st (imports_next {s = s} {ss = ss} a b n m q) = ((s, ss), refl, (a, b, n, m, q))

  pub says_imports : (n : ℕ) (w : Items) → length w ≤ n → Says IsImports (LowStatements k) at_end w (read_imports expr n w)
  unfolding read_imports
  says_imports zero [] short = plain_says [] refl
  says_imports zero (x ∷ w) short = absurd (let h : suc (length w) ≤ 0 = short in omega arith)
  says_imports (suc n) w short = cond_both (passes imports (first w)) _ _ (Says IsImports (LowStatements k) at_end w)
      (λ e. import_says w (read_imports expr n) e (λ r less. says_imports n r (omega arith))) (plain_says w)

  -- ---- scripts

  abbrev packages : Item → Bool
  packages = is_word word.Package

  abbrev Packaged : Item × (Item × List StatementTree) → Items → Type 0
  Packaged = Pair (IsTok packages) (λ x. Pair (IsTok is_name) (λ y. IsImports))

  abbrev script : Option (List ℕ) → List StatementTree → ScriptTree
  script name ss = record { package_name = name; statements = ss }

  package_passes : packages (a_word_item word.Package) ≡ true
  unfolding one_of
  package_passes = refl

  low_named : Low_of (Pair (IsTok is_name) (λ y. IsImports)) (OkPair Fine (λ y. LowStatements k))
  low_named = (some_name ∷ low_imports.0, (some_name, low_imports.1), (some_name ∷ [], low_imports.0, (name_passes, refl), low_imports.2, refl), (tt, low_imports.3))

  package_says : (w : Items) → passes packages (first w) ≡ true
      → Says IsScript (Within k) at_end w (mapped (λ p. script (Some (label p.1.0)) p.1.1) (both (token packages) (λ x. both (token is_name) (λ y r. read_imports expr (length r) r)) w))
  package_says w e = says_mapped Packaged IsScript (OkPair Fine (λ x. OkPair Fine (λ y. LowStatements k))) (Within k) at_end (λ p. script (Some (label p.1.0)) p.1.1) w
      (record { into = λ p u q. a_package p.0 p.1.0 q.0 q.3.0 q.3.1 q.2 q.3.2 q.3.3 (q.4 ∙ ap (λ z. q.0 ++ z) q.3.4); back = back; fit = λ p u q o. o.1.1; unfit = λ p u q o. (tt, (tt, o)) })
      (both (token packages) (λ x. both (token is_name) (λ y r. read_imports expr (length r) r)) w)
      (says_then packages (a_word_item word.Package) package_passes (λ x. Pair (IsTok is_name) (λ y. IsImports)) (λ x. OkPair Fine (λ y. LowStatements k)) at_end (λ x. low_named)
      (λ x. both (token is_name) (λ y r. read_imports expr (length r) r)) w
      (λ x r t less. says_then is_name some_name name_passes (λ y. IsImports) (λ y. LowStatements k) at_end (λ y. low_imports) (λ y z. read_imports expr (length z) z) r
      (λ y z h shorter. says_imports (length z) z (omega arith))))
    where
      back : (t : ScriptTree) (u v : Items) → first (u ++ v) ≡ first w → at_end (first v) ≡ true → IsScript t u
          → (p : Item × (Item × List StatementTree)) × (t ≡ script (Some (label p.1.0)) p.1.1) × Packaged p u
      back _ u v ef st (no_package {ss = ss} n) = absurd (imports_unpacked ss u v n st (ap (passes packages) ef ∙ e))
      back _ u v ef st (a_package {ss = ss} x y i j r t h n q) = ((x, (y, ss)), refl, (i, j ++ r, t, (j, r, h, n, refl), q))

  bare_says : (w : Items) → passes packages (first w) ≡ false → Says IsScript (Within k) at_end w (mapped (script None) (read_imports expr (length w) w))
  bare_says w e = says_mapped IsImports IsScript (LowStatements k) (Within k) at_end (script None) w
      (record { into = λ ss u n. no_package n; back = back; fit = λ ss u n o. o; unfit = λ ss u n o. o })
      (read_imports expr (length w) w) (says_imports (length w) w (omega arith))
    where
      back : (t : ScriptTree) (u v : Items) → first (u ++ v) ≡ first w → at_end (first v) ≡ true → IsScript t u → (ss : List StatementTree) × (t ≡ script None ss) × IsImports ss u
      back _ u v ef st (no_package {ss = ss} n) = (ss, refl, n)
      back _ u v ef st (a_package x y i j r t h n q) = absurd (both_ways (passes packages (first w)) e (ap (passes packages) (sym ef) ∙ front_passes packages x i (j ++ r) u v t q))

  pub says_script : (w : Items) → Says IsScript (Within k) at_end w (read_script expr w)
  unfolding read_script
  says_script w = cond_both (passes packages (first w)) _ _ (Says IsScript (Within k) at_end w) (package_says w) (bare_says w)
