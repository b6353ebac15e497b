-- Readings of statements.
use Rattle.std.proofs.Common.{◌≡◌, ℕ, ◌≤◌, ◌&&◌, Bool, true, false, List, [], ◌∷◌, ◌++◌, take, Option, None, Some, sym, refl, ap, ◌∙◌, subst, inl, inr, ⊎_elim, arith, codes}
use Rattle.std.proofs.lemmas.Bool.{cond_both, cases_Bool, both_ways, and_parts, not-true, not_from_false}
use Rattle.fx_ast.specs.Tree.{Tree, StatementForm, assign, task, show, StatementTree}
use Rattle.fx_scan.specs.declared.symbols.Symbol.TheVariants as symbol
use Rattle.fx_scan.specs.declared.words.Word.TheVariants as word
use Rattle.fx_parse.specs.declared.item.Item.{Item}
use Rattle.fx_parse.specs.declared.item.Lexeme.TheVariants.{Name}
use Rattle.fx_parse.specs.Items.{Items, Sort, a_name, a_head, a_symbol, a_word, literals, first, passes, one_of, start, label, literal, is_name, is_word, is_task, is_called, bytes_of}
use Rattle.fx_parse.specs.Grammar.{IsTok, IsExpr, by_level, a_literal, IsStatement, an_assignment, an_option, an_expression, joins}
use Rattle.fx_ast.specs.Levels.{in_form}
use Rattle.fx_parse.specs.Readings.{Out, mapped, both, token}
use Rattle.fx_parse.specs.ReadPrimary.{starters, begins}
use Rattle.fx_parse.specs.ReadScripts.{sees_assignment, read_statement}
use Rattle.fx_parse.proofs.phrases.Beginnings.{expr_first}
use Rattle.fx_parse.proofs.phrases.Both.{Pair, OkPair, says_same}
use Rattle.fx_parse.proofs.phrases.Far.{Used, says_far, says_mapped, says_placed, says_kept, Kept, used_by}
use Rattle.fx_parse.proofs.phrases.Primaries.{literal_low}
use Rattle.fx_parse.proofs.phrases.Says.{Says, Fine}
use Rattle.fx_parse.proofs.phrases.Shortest.{zero_expr, zero_low}
use Rattle.fx_parse.proofs.sorts.Sight.{at, at_front, expr_name, shutters, second_of, assigns}
use Rattle.fx_parse.proofs.phrases.Stops.{Low, forbidden, without, stops, may_follow, front_passes}
use Rattle.fx_parse.proofs.phrases.Then.{Low_of, Reads, says_then}
use Rattle.fx_parse.proofs.sorts.Toks.{item, sign, a_word_item, a_zero, some_name, may_apart, may_within, not_within, within, in_join}
use Rattle.fx_parse.proofs.phrases.Wholes.{level_of, name_literal}

-- ---- tokens

abbrev options : Item → Bool
options = is_word word.Option

abbrev task_item : Item
task_item = item (Name (codes "task"))

assign_tok : IsTok assigns (sign symbol.Assign) (sign symbol.Assign ∷ [])
unfolding one_of
assign_tok = (refl, refl)

option_tok : IsTok options (a_word_item word.Option) (a_word_item word.Option ∷ [])
unfolding one_of
option_tok = (refl, refl)

task_tok : IsTok is_task task_item (task_item ∷ [])
unfolding one_of is_called bytes_of
task_tok = (refl, refl)

name_passes : is_name some_name ≡ true
unfolding one_of
name_passes = refl

-- ---- what follows a statement, and what begins one

abbrev pub after_statement : List Sort
after_statement = a_symbol symbol.Assign ∷ forbidden 8

abbrev pub stop : Option Item → Bool
stop = without after_statement

ends_expr : (o : Option Item) → stop o ≡ true → stops 8 o ≡ true
ends_expr o e = not_from_false (passes (one_of (forbidden 8)) o) (not_within (forbidden 8) after_statement o refl (not-true (passes (one_of after_statement) o) e))

no_assign : (o : Option Item) → stop o ≡ true → passes assigns o ≡ true → ⊥
no_assign o e f = both_ways (passes (one_of after_statement) o) (not-true (passes (one_of after_statement) o) e) (may_within (a_symbol symbol.Assign ∷ []) after_statement o refl f)

abbrev pub statement_starters : List Sort
statement_starters = a_word word.Option ∷ a_word word.If ∷ starters 8

pub statement_first : (s : StatementTree) (u v : Items) → IsStatement s u → passes (one_of statement_starters) (first (u ++ v)) ≡ true
statement_first _ u v (an_assignment x y i j r t h n q) = may_within (a_name ∷ []) statement_starters (first (u ++ v)) refl (front_passes is_name x i (j ++ r) u v t q)
statement_first _ u v (an_option x y z i j l r t h m n q) = may_within (a_word word.Option ∷ []) statement_starters (first (u ++ v)) refl (front_passes options x i (j ++ (l ++ r)) u v t q)
statement_first _ u v (an_expression {e = e} n) = may_within (a_word word.If ∷ starters 8) statement_starters (first (u ++ v)) refl (expr_first e u v n)

-- what begins a statement that may follow another
abbrev fresh : List Sort
fresh = a_word word.Option ∷ a_word word.If ∷ a_word word.Not ∷ a_word word.Exists ∷ a_head ∷ a_symbol symbol.OpenBrace ∷ literals

abbrev joiners : List Sort
joiners = a_symbol symbol.OpenParen ∷ a_symbol symbol.OpenBracket ∷ a_symbol symbol.Plus ∷ a_symbol symbol.Minus ∷ []

pub fresh_follows : (o : Option Item) → passes (one_of statement_starters) o ≡ true → passes joins o ≡ false → stop o ≡ true
fresh_follows None e f = refl
fresh_follows (Some x) e f = ⊎_elim (λ h. absurd (both_ways (joins x) f h)) (λ h. may_follow fresh after_statement (Some x) refl h)
    (in_join joiners fresh x (within statement_starters (joiners ++ fresh) x refl e))

sees_assignment-is : (w : Items) → sees_assignment w ≡ (passes is_name (at 0 w) && passes assigns (at 1 w))
unfolding sees_assignment
sees_assignment-is [] = refl
sees_assignment-is (x ∷ w) = refl

start_of : (u w : Items) → first u ≡ first w → start u ≡ start w
start_of [] [] e = refl
start_of [] (y ∷ w) e = absurd (let h : None ≡ Some y = e in cc)
start_of (x ∷ u) [] e = absurd (let h : Some x ≡ None = e in cc)
start_of (x ∷ u) (y ∷ w) e = let h : Some x ≡ Some y = e in let g : x ≡ y = cc in ap (λ z. z.place) g

abbrev statement : Item → StatementForm → StatementTree
statement x f = record { place = x.place; form = f }

abbrev shown : Items → Tree → StatementTree
shown w e = record { place = start w; form = show e }

-- an assignment has a `=` second
assignment_second : (x y : Item) (i j r u v : Items) → IsTok is_name x i → IsTok assigns y j → u ≡ i ++ (j ++ r) → passes assigns (at 1 (u ++ v)) ≡ true
assignment_second x y i j r u v t h q = ap (λ z. passes assigns (at 1 (z ++ v))) (q ∙ ap (λ z. z ++ (j ++ r)) t.1) ∙ front_passes assigns y j r (j ++ r) v h refl

module _ (k : ℕ) (expr : Items → Out Tree) (reads : Reads k expr) (some : 1 ≤ k) where
  abbrev LowStatement : StatementTree → Type 0
  LowStatement s = in_form s.form ≤ k

  expr_says : (w : Items) → Says IsExpr (Low k) stop w (expr w)
  expr_says w = says_same IsExpr IsExpr (Low k) (Low k) (stops 8) stop (record { into = λ t u n. n; back = λ t u n. n; fit = λ t o. o; unfit = λ t o. o; ends = ends_expr }) w (expr w) (reads some w)

  low_expr : Low_of IsExpr (Low k)
  low_expr = (a_zero ∷ [], literal a_zero, zero_expr, zero_low k some)

  -- ---- assignments

  abbrev AfterName : Item × Tree → Items → Type 0
  AfterName = Pair (IsTok assigns) (λ y. IsExpr)

  abbrev Assigned : Item × (Item × Tree) → Items → Type 0
  Assigned = Pair (IsTok is_name) (λ x. AfterName)

  abbrev LowAssigned : Item × (Item × Tree) → Type 0
  LowAssigned = OkPair Fine (λ x. OkPair Fine (λ y. Low k))

  abbrev assigned : Items → Out (Item × (Item × Tree))
  assigned = both (token is_name) (λ x. both (token assigns) (λ y. expr))

  low_after : Low_of AfterName (OkPair Fine (λ y. Low k))
  low_after = (sign symbol.Assign ∷ low_expr.0, (sign symbol.Assign, low_expr.1), (sign symbol.Assign ∷ [], low_expr.0, assign_tok, low_expr.2, refl), (tt, low_expr.3))

  assigned_reads : (w : Items) → Says Assigned LowAssigned stop w (assigned w)
  assigned_reads w = says_then is_name some_name name_passes (λ x. AfterName) (λ x. OkPair Fine (λ y. Low k)) stop (λ x. low_after) (λ x. both (token assigns) (λ y. expr)) w
      (λ x r t less. says_then assigns (sign symbol.Assign) assign_tok.0 (λ y. IsExpr) (λ y. Low k) stop (λ y. low_expr) (λ y. expr) r (λ y z h shorter. expr_says z))

  assigned_back : (w : Items) → passes is_name (at 0 w) ≡ true → passes assigns (at 1 w) ≡ true → (s : StatementTree) (u v : Items) → take 2 (u ++ v) ≡ take 2 w → stop (first v) ≡ true → IsStatement s u
      → (p : Item × (Item × Tree)) × (s ≡ statement p.0 (assign (label p.0) p.1.1)) × Assigned p u
  assigned_back w e f _ u v ef st (an_assignment {e = a} x y i j r t h n q) = ((x, (y, a)), refl, (i, j ++ r, t, (j, r, h, n, refl), q))
  assigned_back w e f _ u v ef st (an_option x y z i j l r t h m n q) = absurd (may_apart (a_word word.Option ∷ []) (a_name ∷ []) (at 0 w) refl
      (ap (passes options) (sym (at_front 0 1 (u ++ v) w (omega arith) ef)) ∙ front_passes options x i (j ++ (l ++ r)) u v t q) e)
  assigned_back w e f _ u v ef st (an_expression {e = a} n) =
      let name = ap (passes is_name) (at_front 0 1 (u ++ v) w (omega arith) ef) ∙ e in
      let equals = ap (passes assigns) (at_front 1 1 (u ++ v) w (omega arith) ef) ∙ f in
      let one = expr_name a u v name (may_within (a_symbol symbol.Assign ∷ []) shutters (at 1 (u ++ v)) refl equals) n in
      absurd (no_assign (first v) st (ap (passes assigns) (sym (second_of u v one)) ∙ equals))

  assignment_says : (w : Items) → sees_assignment w ≡ true → Says IsStatement LowStatement stop w (mapped (λ p. statement p.0 (assign (label p.0) p.1.1)) (assigned w))
  assignment_says [] e = absurd (let h : false ≡ true = sym (sees_assignment-is []) ∙ e in cc)
  assignment_says (x ∷ w) e =
      let both_seen = and_parts (is_name x) (passes assigns (first w)) (sym (sees_assignment-is (x ∷ w)) ∙ e) in
      says_far Assigned IsStatement LowAssigned LowStatement stop (λ p. statement p.0 (assign (label p.0) p.1.1)) 1 (x ∷ w)
      (record { into = λ p u q. an_assignment p.0 p.1.0 q.0 q.3.0 q.3.1 q.2 q.3.2 q.3.3 (q.4 ∙ ap (λ z. q.0 ++ z) q.3.4); back = assigned_back (x ∷ w) both_seen.0 both_seen.1; fit = λ p u q o. o.1.1; unfit = λ p u q o. (tt, (tt, o)) })
      (assigned (x ∷ w)) (assigned_reads (x ∷ w))
      (used_by Assigned LowAssigned stop refl (x ∷ []) w low_after.0 (x, low_after.1) (x ∷ [], low_after.0, (both_seen.0, refl), low_after.2, refl) (tt, low_after.3) (assigned (x ∷ w)) (assigned_reads (x ∷ w)))

  -- ---- options

  abbrev AfterOption : Item × (Item × Tree) → Items → Type 0
  AfterOption = Pair (IsTok is_task) (λ y. AfterName)

  abbrev Opted : Item × (Item × (Item × Tree)) → Items → Type 0
  Opted = Pair (IsTok options) (λ x. AfterOption)

  low_option : Low_of AfterOption (OkPair Fine (λ y. OkPair Fine (λ z. Low k)))
  low_option = (task_item ∷ low_after.0, (task_item, low_after.1), (task_item ∷ [], low_after.0, task_tok, low_after.2, refl), (tt, low_after.3))

  option_says : (w : Items) → passes options (first w) ≡ true
      → Says IsStatement LowStatement stop w (mapped (λ p. statement p.0 (task p.1.1.1)) (both (token options) (λ x. both (token is_task) (λ y. both (token assigns) (λ z. expr))) w))
  option_says w e = says_mapped Opted IsStatement (OkPair Fine (λ x. OkPair Fine (λ y. OkPair Fine (λ z. Low k)))) LowStatement stop (λ p. statement p.0 (task p.1.1.1)) w
      (record {
        into = λ p u q. an_option p.0 p.1.0 p.1.1.0 q.0 q.3.0 q.3.3.0 q.3.3.1 q.2 q.3.2 q.3.3.2 q.3.3.3 (q.4 ∙ ap (λ z. q.0 ++ z) (q.3.4 ∙ ap (λ z. q.3.0 ++ z) q.3.3.4));
        back = back;
        fit = λ p u q o. o.1.1.1;
        unfit = λ p u q o. (tt, (tt, (tt, o)));
      })
      (both (token options) (λ x. both (token is_task) (λ y. both (token assigns) (λ z. expr))) w)
      (says_then options (a_word_item word.Option) option_tok.0 (λ x. AfterOption) (λ x. OkPair Fine (λ y. OkPair Fine (λ z. Low k))) stop (λ x. low_option) (λ x. both (token is_task) (λ y. both (token assigns) (λ z. expr))) w
      (λ x r t less. says_then is_task task_item task_tok.0 (λ y. AfterName) (λ y. OkPair Fine (λ z. Low k)) stop (λ y. low_after) (λ y. both (token assigns) (λ z. expr)) r
      (λ y z h shorter. says_then assigns (sign symbol.Assign) assign_tok.0 (λ y. IsExpr) (λ y. Low k) stop (λ y. low_expr) (λ y. expr) z (λ a b c d. expr_says b))))
    where
      back : (s : StatementTree) (u v : Items) → first (u ++ v) ≡ first w → stop (first v) ≡ true → IsStatement s u
          → (p : Item × (Item × (Item × Tree))) × (s ≡ statement p.0 (task p.1.1.1)) × Opted p u
      back _ u v ef st (an_assignment x y i j r t h n q) = absurd (may_apart (a_name ∷ []) (a_word word.Option ∷ []) (first w) refl (ap (passes is_name) (sym ef) ∙ front_passes is_name x i (j ++ r) u v t q) e)
      back _ u v ef st (an_option {e = a} x y z i j l r t h m n q) = ((x, (y, (z, a))), refl, (i, j ++ (l ++ r), t, (j, l ++ r, h, (l, r, m, n, refl), refl), q))
      back _ u v ef st (an_expression {e = a} n) = absurd (may_apart (a_word word.If ∷ starters 8) (a_word word.Option ∷ []) (first w) refl (ap (passes begins) (sym ef) ∙ expr_first a u v n) e)

  -- ---- expressions

  low_shown : Low_of IsStatement LowStatement
  low_shown = (a_zero ∷ [], shown (a_zero ∷ []) (literal a_zero), an_expression zero_expr, zero_low k some)

  -- an expression begins where the items do
  expr_start : (e : Tree) (u v w : Items) → first (u ++ v) ≡ first w → IsExpr e u → start u ≡ start w
  expr_start e [] v w ef n = absurd (let h : false ≡ true = expr_first e [] [] n in cc)
  expr_start e (x ∷ u) v w ef n = start_of (x ∷ u) w ef

  shown_is : (e : Tree) (u w : Items) → start u ≡ start w → IsExpr e u → IsStatement (shown w e) u
  shown_is e u w q n = subst (λ p. IsStatement (record { place = p; form = show e }) u) q (an_expression n)

  other_says : (w : Items) → passes options (first w) ≡ false → passes is_name (first w) ≡ false → Says IsStatement LowStatement stop w (mapped (shown w) (expr w))
  other_says w e f = says_placed IsExpr IsStatement (Low k) LowStatement stop (shown w) w
      (record { into = λ a u v ef n. shown_is a u w (expr_start a u v w ef n) n; back = back; fit = λ a u n o. o; unfit = λ a u n o. o; some = low_shown })
      (expr w) (expr_says w)
    where
      back : (s : StatementTree) (u v : Items) → first (u ++ v) ≡ first w → stop (first v) ≡ true → IsStatement s u → (a : Tree) × (s ≡ shown w a) × IsExpr a u
      back _ u v ef st (an_assignment x y i j r t h n q) = absurd (both_ways (passes is_name (first w)) f (ap (passes is_name) (sym ef) ∙ front_passes is_name x i (j ++ r) u v t q))
      back _ u v ef st (an_option x y z i j l r t h m n q) = absurd (both_ways (passes options (first w)) e (ap (passes options) (sym ef) ∙ front_passes options x i (j ++ (l ++ r)) u v t q))
      back _ u v ef st (an_expression {e = a} n) = (a, ap (λ p. record { place = p; form = show a }) (expr_start a u v w ef n), n)

  name_expr : (x : Item) → is_name x ≡ true → IsExpr (literal x) (x ∷ [])
  name_expr x e = by_level (level_of (literal x) (x ∷ []) 8 (a_literal x (name_literal x e, refl)))

  name_used : (x : Item) (w : Items) → is_name x ≡ true → Used 1 (x ∷ w) (expr (x ∷ w))
  name_used x w e = used_by IsExpr (Low k) stop refl (x ∷ []) w [] (literal x) (name_expr x e) (let h = literal_low 0 x in omega arith) (expr (x ∷ w)) (expr_says (x ∷ w))

  name_says : (x : Item) (w : Items) → is_name x ≡ true → passes assigns (first w) ≡ false → Says IsStatement LowStatement stop (x ∷ w) (mapped (shown (x ∷ w)) (expr (x ∷ w)))
  name_says x w e f = says_far (Kept IsExpr (x ∷ w)) IsStatement (Low k) LowStatement stop (shown (x ∷ w)) 1 (x ∷ w)
      (record { into = λ a u n. shown_is a u (x ∷ w) (start_of u (x ∷ w) n.1) n.0; back = back; fit = λ a u n o. o; unfit = λ a u n o. o })
      (expr (x ∷ w)) (says_kept IsExpr (Low k) stop (x ∷ w) (expr (x ∷ w)) (expr_says (x ∷ w)) (name_used x w e)) (name_used x w e)
    where
      kept : (a : Tree) (u v : Items) → first (u ++ v) ≡ Some x → IsExpr a u → first u ≡ Some x
      kept a [] v ef n = absurd (let h : false ≡ true = expr_first a [] [] n in cc)
      kept a (y ∷ u) v ef n = ef

      back : (s : StatementTree) (u v : Items) → take 2 (u ++ v) ≡ take 2 (x ∷ w) → stop (first v) ≡ true → IsStatement s u → (a : Tree) × (s ≡ shown (x ∷ w) a) × Kept IsExpr (x ∷ w) a u
      back _ u v ef st (an_assignment y z i j r t h n q) = absurd (both_ways (passes assigns (first w)) f
          (ap (passes assigns) (sym (at_front 1 1 (u ++ v) (x ∷ w) (omega arith) ef)) ∙ assignment_second y z i j r u v t h q))
      back _ u v ef st (an_option y z o i j l r t h m n q) = absurd (may_apart (a_word word.Option ∷ []) (a_name ∷ []) (Some x) refl
          (ap (passes options) (sym (at_front 0 1 (u ++ v) (x ∷ w) (omega arith) ef)) ∙ front_passes options y i (j ++ (l ++ r)) u v t q) e)
      back _ u v ef st (an_expression {e = a} n) = let here = at_front 0 1 (u ++ v) (x ∷ w) (omega arith) ef in
          (a, ap (λ p. record { place = p; form = show a }) (expr_start a u v (x ∷ w) here n), (n, kept a u v here n))

  expression_says : (w : Items) → sees_assignment w ≡ false → passes options (first w) ≡ false → Says IsStatement LowStatement stop w (mapped (shown w) (expr w))
  expression_says [] e f = other_says [] f refl
  expression_says (x ∷ w) e f = elim (cases_Bool (is_name x)) [
    | inr g ↦ other_says (x ∷ w) f g
    | inl g ↦ name_says x w g (let h = rw (sees_assignment-is (x ∷ w), g) at e in h)
  ]

  pub says_statement : (w : Items) → Says IsStatement LowStatement stop w (read_statement expr w)
  unfolding read_statement
  says_statement w = cond_both (sees_assignment w) _ _ (Says IsStatement LowStatement stop w) (assignment_says w)
      (λ e. cond_both (passes options (first w)) _ _ (Says IsStatement LowStatement stop w) (option_says w) (expression_says w e))
