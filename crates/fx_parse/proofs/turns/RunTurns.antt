-- Operators between operands, one at a time, and what they make.
use Rattle.std.proofs.Common.{◌≡◌, ℕ, zero, suc, ◌+◌, ◌==◌, true, false, List, [], ◌∷◌, ◌++◌, length, map, refl, sym, ap, subst, ◌∙◌, append-nil, append_assoc, arith}
use Rattle.std.specs.Prelude.{Bool, None, Some}
use Rattle.fx_base.specs.declared.place.Place.{Place}
use Rattle.fx_ast.specs.declared.expr.Expr.{Expr}
use Rattle.fx_ast.specs.declared.expr.Infix.{Infix}
use Rattle.fx_ast.specs.declared.expr.Link.{Link as Part, roll-Link}
use Rattle.fx_ast.specs.Shape.{link, tree_of, trees_of, links_of}
use Rattle.fx_ast.specs.Tree.{Tree, tree, pipe, chain, more_trees, more_links}
use Rattle.fx_ast.proofs.ListLaws.{links_push, trees_push}
use Rattle.fx_parse.specs.declared.item.Item.{Item}
use Rattle.fx_parse.specs.Grammar.{Link, calls_of, links_of as links_made, run}
use Rattle.fx_parse.specs.Items.{Items, one_of, passes, first, start, infix_of, operators, prefixes}
use Rattle.fx_parse.specs.Operations.{operation, call_of, operand_of, operations}
use Rattle.fx_parse.specs.Readings.{Out, Got, Bad, mapped, go_on, both, links}
use Rattle.fx_parse.specs.declared.phrase.Phrase.{Phrase}
use Rattle.fx_parse.specs.declared.phrase.Phrase.TheVariants.{Whole, Called, Line}
use Rattle.fx_parse.specs.ReadExprs.{read_called, read_expr, read_level, read_phrase}
use Rattle.fx_parse.specs.ReadRuns.{has_room, read_link, operator_run, read_run, read_layer, read_prefix, read_postfix}
use Rattle.fx_parse.proofs.turns.ListTurns.{mapped_twice, mapped_by}

pub line_above : (m : ℕ) → operators (m + 1) ≡ operators (suc m)
line_above m = let e : m + 1 ≡ suc m = omega arith in ap operators e

-- ---- a turn of the code's loops, for each way out of it

module _ {X : Type 0} (f : Link → X) (k m : ℕ) (operand : Items → Out Tree) where
  room_none : (w : Items) → passes (one_of (operators (suc m))) (first w) ≡ true → passes (λ (x : Item). has_room k m None) (first w) ≡ true
  room_none [] e = absurd (let h : false ≡ true = e in cc)
  room_none (x ∷ w) e = refl

  joined : (found : List X) (b : Link) (o : Out (List Link))
      → mapped (λ l. found ++ l) (mapped (map f) (mapped (λ (p : Link × List Link). p.0 ∷ p.1) (mapped (λ z. (b, z)) o))) ≡ mapped (λ l. found ++ (f b ∷ l)) (mapped (map f) o)
  joined found b (Got xs r) = refl
  joined found b (Bad d r) = refl

  stepped : (n : ℕ) (found : List X) (o : Out Link)
      → mapped (λ l. found ++ l) (mapped (map f) (mapped (λ (p : Link × List Link). p.0 ∷ p.1) (go_on o (λ b r. mapped (λ z. (b, z)) (links (operator_run k m operand) n None r)))))
      ≡ go_on (mapped f o) (λ b r. mapped (λ l. found ++ (b ∷ l)) (mapped (map f) (links (operator_run k m operand) n None r)))
  stepped n found (Got b r) = joined found b (links (operator_run k m operand) n None r)
  stepped n found (Bad d r) = refl

  pub run_step : (n : ℕ) (found : List X) (w : Items) → passes (one_of (operators (suc m))) (first w) ≡ true
      → mapped (λ l. found ++ l) (mapped (map f) (links (operator_run k m operand) (suc n) None w))
      ≡ go_on (mapped f (read_link m operand w)) (λ b r. mapped (λ l. found ++ (b ∷ l)) (mapped (map f) (links (operator_run k m operand) n None r)))
  run_step n found w e = rw (e, room_none w e) (stepped n found (read_link m operand w))

  pub run_end : (n : ℕ) (found : List X) (w : Items) → passes (one_of (operators (suc m))) (first w) ≡ false
      → mapped (λ l. found ++ l) (mapped (map f) (links (operator_run k m operand) (suc n) None w)) ≡ Got found w
  run_end n found w e = rw e (ap (λ l. Got l w) (append-nil found))

  pub run_none : (found : List X) (w : Items) → mapped (λ l. found ++ l) (mapped (map f) (links (operator_run k m operand) 0 None w)) ≡ Got found w
  run_none found w = ap (λ l. Got l w) (append-nil found)

  pub run_next : (n : ℕ) (found new : List X) (b : X) (w r : Items) → passes (one_of (operators (suc m))) (first w) ≡ true
      → mapped f (read_link m operand w) ≡ Got b r → new ≡ found ++ b ∷ []
      → mapped (λ l. found ++ l) (mapped (map f) (links (operator_run k m operand) (suc n) None w))
      ≡ mapped (λ l. new ++ l) (mapped (map f) (links (operator_run k m operand) n None r))
  run_next n found new b w r e is same = run_step n found w e
      ∙ ap (λ o. go_on o (λ b r. mapped (λ l. found ++ (b ∷ l)) (mapped (map f) (links (operator_run k m operand) n None r)))) is
      ∙ mapped_by (λ l. found ++ (b ∷ l)) (λ l. new ++ l) (mapped (map f) (links (operator_run k m operand) n None r)) (λ l. rw same (sym (append_assoc found (b ∷ []) l)))

  pub run_bad : (n : ℕ) (found : List X) (d : Bool) (w r : Items) → passes (one_of (operators (suc m))) (first w) ≡ true
      → mapped f (read_link m operand w) ≡ Bad d r
      → mapped (λ l. found ++ l) (mapped (map f) (links (operator_run k m operand) (suc n) None w)) ≡ Bad d r
  run_bad n found d w r e is = run_step n found w e
      ∙ ap (λ o. go_on o (λ b r. mapped (λ l. found ++ (b ∷ l)) (mapped (map f) (links (operator_run k m operand) n None r)))) is

-- ---- lists that grow at their end

pub pushed_link : (ls new : List Part) (p : Place) (op : Infix) (e : Expr) → new ≡ ls ++ roll-Link (record { place = p; op = op; right = e }) ∷ []
    → map link new ≡ map link ls ++ record { place = p; op = op; right = tree_of e } ∷ []
pushed_link ls new p op e is = ap (map link) is ∙ links_push ls p op e

pub pushed_tree : (es new : List Expr) (e : Expr) → new ≡ es ++ e ∷ [] → map tree_of new ≡ map tree_of es ++ tree_of e ∷ []
pushed_tree es new e is = ap (map tree_of) is ∙ trees_push es e

-- ---- after the first operand

module _ (k m : ℕ) (operand : Items → Out Tree) (t : Tree) where
  pub run_alone : (w : Items) → passes (one_of (operators (suc m))) (first w) ≡ false → links (operator_run k m operand) (length w) (Some t) w ≡ Got [] w
  run_alone [] e = refl
  run_alone (x ∷ w) e = rw e refl

  pub run_refused : (w : Items) → passes (one_of (operators (suc m))) (first w) ≡ true → has_room k m (Some t) ≡ false
      → links (operator_run k m operand) (length w) (Some t) w ≡ Bad true w
  run_refused [] e room = absurd (let h : false ≡ true = e in cc)
  run_refused (x ∷ w) e room = rw (e, room) refl

  pub run_begun : (w : Items) → passes (one_of (operators (suc m))) (first w) ≡ true → has_room k m (Some t) ≡ true
      → links (operator_run k m operand) (length w) (Some t) w ≡ links (operator_run k m operand) (length w) None w
  run_begun [] e room = absurd (let h : false ≡ true = e in cc)
  run_begun (x ∷ w) e room = rw (e, room) refl

-- ---- what they make

made_calls : (xs : List Link) → calls_of xs ≡ trees_of (map call_of xs)
made_calls [] = refl
made_calls (x ∷ xs) = ap (more_trees x.right) (made_calls xs)

made_links : (xs : List Link) → links_made xs ≡ links_of (map operation xs)
made_links [] = refl
made_links (x ∷ xs) = ap (more_links x.mark.place (infix_of x.mark.lexeme) x.right) (made_links xs)

run_chain : (m : ℕ) (p : Place) (t : Tree) (x : Link) (xs : List Link) → (m == 1) ≡ false → run (suc m) p t (x ∷ xs) ≡ tree p (chain t (links_of (map operation (x ∷ xs))))
run_chain zero p t x xs e = ap (λ l. tree p (chain t l)) (made_links (x ∷ xs))
run_chain (suc zero) p t x xs e = absurd (let h : true ≡ false = e in cc)
run_chain (suc (suc m)) p t x xs e = ap (λ l. tree p (chain t l)) (made_links (x ∷ xs))

module _ (p : Place) (t : Tree) where
  pipe_of : (o : Out (Link × List Link)) → mapped (run 2 p t) (mapped (λ (q : Link × List Link). q.0 ∷ q.1) o)
      ≡ mapped (λ es. tree p (pipe t (trees_of es))) (mapped (map call_of) (mapped (λ (q : Link × List Link). q.0 ∷ q.1) o))
  pipe_of (Got q r) = ap (λ l. Got (tree p (pipe t l)) r) (made_calls (q.0 ∷ q.1))
  pipe_of (Bad d r) = refl

  chain_of : (m : ℕ) → (m == 1) ≡ false → (o : Out (Link × List Link)) → mapped (run (suc m) p t) (mapped (λ (q : Link × List Link). q.0 ∷ q.1) o)
      ≡ mapped (λ ls. tree p (chain t (links_of ls))) (mapped (map operation) (mapped (λ (q : Link × List Link). q.0 ∷ q.1) o))
  chain_of m e (Got q r) = ap (λ s. Got s r) (run_chain m p t q.0 q.1 e)
  chain_of m e (Bad d r) = refl

  pub run_piped : (k : ℕ) (operand : Items → Out Tree) (w : Items) → passes (one_of (operators 2)) (first w) ≡ true
      → mapped (run 2 p t) (links (operator_run k 1 operand) (length w) None w)
      ≡ mapped (λ es. tree p (pipe t (trees_of es))) (mapped (map call_of) (links (operator_run k 1 operand) (length w) None w))
  run_piped k operand [] e = absurd (let h : false ≡ true = e in cc)
  run_piped k operand (x ∷ w) e = rw e (pipe_of (both (read_link 1 operand) (λ b r. links (operator_run k 1 operand) (length w) None r) (x ∷ w)))

  pub run_chained : (k m : ℕ) (operand : Items → Out Tree) (w : Items) → (m == 1) ≡ false → passes (one_of (operators (suc m))) (first w) ≡ true
      → mapped (run (suc m) p t) (links (operator_run k m operand) (length w) None w)
      ≡ mapped (λ ls. tree p (chain t (links_of ls))) (mapped (map operation) (links (operator_run k m operand) (length w) None w))
  run_chained k m operand [] other e = absurd (let h : false ≡ true = e in cc)
  run_chained k m operand (x ∷ w) other e = rw e (chain_of m other (both (read_link m operand) (λ b r. links (operator_run k m operand) (length w) None r) (x ∷ w)))

-- what stands after the first operand, where there are levels enough
module _ (k m : ℕ) (operand : ℕ → Items → Out Tree) (p : Place) (t : Tree) (w : Items) where
  pub pipe_begun : m ≡ 1 → passes (one_of (operators (suc m))) (first w) ≡ true → has_room k m (Some t) ≡ true
      → mapped (run (suc m) p t) (links (operator_run k m (operand m)) (length w) (Some t) w)
      ≡ mapped (λ es. tree p (pipe t (trees_of es))) (mapped (map call_of) (links (operator_run k 1 (operand 1)) (length w) None w))
  pipe_begun one sees room = ap (mapped (run (suc m) p t)) (run_begun k m (operand m) t w sees room)
      ∙ ap (λ n. mapped (run (suc n) p t) (links (operator_run k n (operand n)) (length w) None w)) one
      ∙ run_piped p t k (operand 1) w (subst (λ n. passes (one_of (operators (suc n))) (first w) ≡ true) one sees)

  pub chain_begun : (m == 1) ≡ false → passes (one_of (operators (suc m))) (first w) ≡ true → has_room k m (Some t) ≡ true
      → mapped (run (suc m) p t) (links (operator_run k m (operand m)) (length w) (Some t) w)
      ≡ mapped (λ ls. tree p (chain t (links_of ls))) (mapped (map operation) (links (operator_run k m (operand m)) (length w) None w))
  chain_begun other sees room = ap (mapped (run (suc m) p t)) (run_begun k m (operand m) t w sees room) ∙ run_chained p t k m (operand m) w other sees

-- ---- a line of the grammar

run_after : (k m : ℕ) (operand : Items → Out Tree) (p : Place) (o : Out Tree)
    → mapped (λ (q : Tree × List Link). run (suc m) p q.0 q.1) (go_on o (λ t r. mapped (λ z. (t, z)) (links (operator_run k m operand) (length r) (Some t) r)))
    ≡ go_on o (λ t r. mapped (run (suc m) p t) (links (operator_run k m operand) (length r) (Some t) r))
run_after k m operand p (Got t r) = mapped_twice (λ (q : Tree × List Link). run (suc m) p q.0 q.1) (λ z. (t, z)) (links (operator_run k m operand) (length r) (Some t) r)
run_after k m operand p (Bad d r) = refl

module _ (k : ℕ) where
  pub level_postfix : (line : ℕ) (w : Items) → line ≡ 0 → read_level (suc k) line w ≡ read_postfix false k k (read_expr k) (read_expr k) w
  unfolding read_expr read_layer
  level_postfix line w none = ap (λ n. read_level (suc k) n w) none

  sign_at : (m : ℕ) (w : Items) → passes (one_of (prefixes (suc m))) (first w) ≡ true → read_level (suc k) (suc m) w ≡ read_prefix k (suc m) (read_level k (suc m)) w
  unfolding read_expr read_layer
  sign_at m w e = rw e refl

  pub level_sign : (line m : ℕ) (w : Items) → line ≡ suc m → passes (one_of (prefixes line)) (first w) ≡ true → read_level (suc k) line w ≡ read_prefix k line (read_level k line) w
  level_sign line m w is e = ap (λ n. read_level (suc k) n w) is ∙ sign_at m w (subst (λ n. passes (one_of (prefixes n)) (first w) ≡ true) is e)
      ∙ ap (λ n. read_prefix k n (read_level k n) w) (sym is)

  abbrev after : ℕ → Items → Tree → Items → Out Tree
  after m w t r = mapped (run (suc m) (start w) t) (operations k m (Some t) r)

  run_at : (m : ℕ) (w : Items) → passes (one_of (prefixes (suc m))) (first w) ≡ false → read_level (suc k) (suc m) w ≡ go_on (read_level (suc k) m w) (after m w)
  unfolding read_expr read_layer read_run
  run_at m w e = rw e (run_after k m (operand_of k m) (start w) (read_level (suc k) m w))

  pub level_run : (line m : ℕ) (w : Items) (o : Out Tree) → line ≡ suc m → passes (one_of (prefixes line)) (first w) ≡ false → read_level (suc k) m w ≡ o
      → read_level (suc k) line w ≡ go_on o (after m w)
  level_run line m w o is e one = ap (λ n. read_level (suc k) n w) is ∙ run_at m w (subst (λ n. passes (one_of (prefixes n)) (first w) ≡ false) is e)
      ∙ ap (λ o. go_on o (after m w)) one

-- ---- a postfix that ends in a call, and where no level is left

pub called_none : (k : ℕ) (w : Items) → k ≡ 0 → read_called (suc k) w ≡ Bad false w
unfolding read_expr
called_none k w none = ap (λ n. read_called (suc n) w) none

pub called_some : (k l : ℕ) (w : Items) → k ≡ suc l → read_called (suc k) w ≡ read_postfix true k l (read_expr k) (read_expr l) w
unfolding read_expr
called_some k l w is = ap (λ n. read_called (suc n) w) is ∙ ap (λ n. read_postfix true n l (read_expr n) (read_expr l) w) (sym is)

none_left : (p : Phrase) (w : Items) → read_phrase 0 p w ≡ Bad false w
unfolding read_phrase read_expr
none_left Whole w = refl
none_left Called w = refl
none_left (Line m) w = refl

pub phrase_none : (k : ℕ) (p : Phrase) (w : Items) → k ≡ 0 → read_phrase k p w ≡ Bad false w
phrase_none k p w none = ap (λ n. read_phrase n p w) none ∙ none_left p w
