-- Readings of records: a name and `with` before the properties or not.
use Rattle.std.proofs.Common.{◌≡◌, ℕ, ◌≤◌, ◌&&◌, Bool, true, false, List, [], ◌∷◌, ◌++◌, length, take, drop, Option, None, Some, sym, refl, ap, ◌∙◌, inl, inr, append_assoc, append-nil, arith, leb, codes}
use Rattle.std.proofs.lemmas.Bool.{cases_Bool, cond_both, both_ways, leb-true, leb-false, and_parts}
use Rattle.fx_ast.specs.Tree.{Tree, tree, Props, no_props, more_props}
use Rattle.fx_scan.specs.declared.symbols.Symbol.TheVariants as symbol
use Rattle.fx_parse.specs.declared.item.Item.{Item}
use Rattle.fx_parse.specs.declared.item.Lexeme.TheVariants.{Name}
use Rattle.fx_parse.specs.Items.{Items, a_name, a_plain, a_symbol, first, passes, one_of, label, literal, is_symbol, is_name, is_label, is_with, is_called, bytes_of}
use Rattle.fx_parse.specs.Grammar.{IsTok, IsRecord, whole_record, changed_record, IsProps, props_end, props_some, IsSomeProps, props_next, IsMoreProps, prop_last, prop_comma, IsValue, short_value, given_value, properties}
use Rattle.fx_ast.specs.Levels.{height, in_props}
use Rattle.fx_parse.specs.Readings.{Out, Bad, mapped, both, token}
use Rattle.fx_parse.specs.ReadProps.{read_props, read_some_props}
use Rattle.fx_parse.specs.ReadPrimary.{sees_with, read_properties}
use Rattle.fx_parse.proofs.phrases.Says.{Says, Fine, any_stop}
use Rattle.fx_parse.proofs.phrases.Both.{Pair, OkPair}
use Rattle.fx_parse.proofs.phrases.Far.{says_mapped, says_far, used_by}
use Rattle.fx_parse.proofs.phrases.Props.{says_props, says_some_props}
use Rattle.fx_parse.proofs.phrases.Shortest.{zero_expr, zero_low}
use Rattle.fx_parse.proofs.phrases.Stops.{LowProps, front_passes}
use Rattle.fx_parse.proofs.phrases.Then.{Low_of, Reads, says_then, says_deep}
use Rattle.fx_parse.proofs.sorts.Toks.{item, sign, not_of, may_apart, may_within, called_name, a_zero, some_name}

-- what is changed, and the properties
abbrev pub Filled : Type 0
Filled = Option (List ℕ) × Props

abbrev filled : Option (List ℕ) → Props → Filled
filled base ps = (base, ps)

-- what stands after the `{`
abbrev pub IsFilled : Filled → Items → Type 0
IsFilled p w = IsRecord p.0 p.1 w

abbrev pub LowFilled : ℕ → Filled → Type 0
LowFilled k p = in_props p.1 ≤ k

abbrev closes : Item → Bool
closes = is_symbol symbol.CloseBrace

abbrev with_item : Item
with_item = item (Name (codes "with"))

closing_tok : IsTok closes (sign symbol.CloseBrace) (sign symbol.CloseBrace ∷ [])
unfolding one_of
closing_tok = (refl, refl)

with_tok : IsTok is_with with_item (with_item ∷ [])
unfolding one_of is_called bytes_of
with_tok = (refl, refl)

pub low_filled : (k : ℕ) → Low_of IsFilled (LowFilled k)
unfolding height
low_filled k = (sign symbol.CloseBrace ∷ [], (None, no_props), whole_record (props_end (sign symbol.CloseBrace) closing_tok), (let h : 0 ≤ k = omega arith in h))

name_passes : is_name some_name ≡ true
unfolding one_of
name_passes = refl

-- `x: 0}`
abbrev one_prop : Item → Props
one_prop x = more_props (label x) (literal a_zero) no_props

abbrev after_label : Items
after_label = sign symbol.Colon ∷ a_zero ∷ sign symbol.CloseBrace ∷ []

some_prop : (x : Item) → is_label x ≡ true → IsSomeProps properties (one_prop x) (x ∷ after_label)
unfolding one_of
some_prop x e = props_next x (x ∷ []) (sign symbol.Colon ∷ a_zero ∷ []) (sign symbol.CloseBrace ∷ []) (e, refl)
    (given_value (sign symbol.Colon) (sign symbol.Colon ∷ []) (a_zero ∷ []) (refl, refl) zero_expr refl) (prop_last (sign symbol.CloseBrace) closing_tok) refl

name_label : (x : Item) → is_name x ≡ true → is_label x ≡ true
name_label x e = may_within (a_name ∷ []) (a_name ∷ a_plain ∷ []) (Some x) refl e

low_prop : (k : ℕ) → 1 ≤ k → (x : Item) → LowProps k (one_prop x)
unfolding height
low_prop k some x = let h = zero_low k some in omega arith

-- properties of a record have a level of their own
some_level : (ps : Props) (u : Items) → IsSomeProps properties ps u → 1 ≤ in_props ps
unfolding height
some_level _ u (props_next {e = tree p s} {ps = ps} x i a b t v m e) = omega arith

-- ---- what stands first and second

second_item : (s : Items) → first (drop 1 (take 2 s)) ≡ first (drop 1 s)
second_item [] = refl
second_item (x ∷ []) = refl
second_item (x ∷ y ∷ s) = refl

first_item : (s : Items) → first (take 2 s) ≡ first s
first_item [] = refl
first_item (x ∷ s) = refl

-- the same first two items
same_first : (s w : Items) → take 2 s ≡ take 2 w → first s ≡ first w
same_first s w e = sym (first_item s) ∙ ap first e ∙ first_item w

same_second : (s w : Items) → take 2 s ≡ take 2 w → first (drop 1 s) ≡ first (drop 1 w)
same_second s w e = sym (second_item s) ∙ ap (λ z. first (drop 1 z)) e ∙ second_item w

sees_with-is : (w : Items) → sees_with w ≡ (passes is_name (first w) && passes is_with (first (drop 1 w)))
unfolding sees_with
sees_with-is [] = refl
sees_with-is (x ∷ w) = refl

-- behind a first token
behind : (test : Item → Bool) (x : Item) (i r u v : Items) → IsTok test x i → u ≡ i ++ r → drop 1 (u ++ v) ≡ r ++ v
behind test x i r u v t e = ap (λ z. drop 1 (z ++ v)) (e ∙ ap (λ z. z ++ r) t.1)

may_called : (o : Option Item) → passes is_with o ≡ true → passes is_name o ≡ true
may_called None e = absurd (let h : false ≡ true = e in cc)
may_called (Some x) e = called_name (codes "with") x e

-- after a label stands no `with`
no_with : (x : Item) (e : Tree) (ps : Props) (a b v : Items) → IsValue x e a → IsMoreProps properties ps b → passes is_with (first ((a ++ b) ++ v)) ≡ true → ⊥
no_with x e ps _ b v (short_value n) (prop_last y t) h =
    may_apart (a_symbol symbol.CloseBrace ∷ []) (a_name ∷ []) (first (b ++ v)) refl (front_passes closes y b [] b v t (sym (append-nil b))) (may_called (first (b ++ v)) h)
no_with x e ps _ b v (short_value n) (prop_comma y i u t m s) h =
    may_apart (a_symbol symbol.Comma ∷ []) (a_name ∷ []) (first (b ++ v)) refl (front_passes (is_symbol symbol.Comma) y i u b v t s) (may_called (first (b ++ v)) h)
no_with x e ps a b v (given_value y i u t m s) rest h =
    may_apart (a_symbol symbol.Colon ∷ []) (a_name ∷ []) (first ((a ++ b) ++ v)) refl
    (ap (λ z. passes (is_symbol symbol.Colon) (first z)) (append_assoc a b v) ∙ front_passes (is_symbol symbol.Colon) y i u a (b ++ v) t s) (may_called (first ((a ++ b) ++ v)) h)

-- ---- where a name and `with` stand first

no_props_with : (ps : Props) (u v : Items) → passes is_name (first (u ++ v)) ≡ true → passes is_with (first (drop 1 (u ++ v))) ≡ true → IsProps properties ps u → ⊥
no_props_with _ u v e f (props_end y t) =
    may_apart (a_symbol symbol.CloseBrace ∷ []) (a_name ∷ []) (first (u ++ v)) refl (front_passes closes y u [] u v t (sym (append-nil u))) e
no_props_with _ u v e f (props_some (props_next {e = x} {ps = ps} l i a b t value more s)) =
    no_with l x ps a b v value more (sym (ap (λ z. passes is_with (first z)) (behind is_label l i (a ++ b) u v t s)) ∙ f)

changed_sees : (x y : Item) (i j u w v : Items) → IsTok is_name x i → IsTok is_with y j → w ≡ i ++ (j ++ u)
    → (passes is_name (first (w ++ v)) ≡ true) × (passes is_with (first (drop 1 (w ++ v))) ≡ true)
changed_sees x y i j u w v t s e = (front_passes is_name x i (j ++ u) w v t e, ap (λ z. passes is_with (first z)) (behind is_name x i (j ++ u) w v t e) ∙ front_passes is_with y j u (j ++ u) v s refl)

module _ (k : ℕ) (inner : Items → Out Tree) (reads : Reads k inner) where
  abbrev Changed : Item × (Item × Props) → Items → Type 0
  Changed = Pair (IsTok is_name) (λ x. Pair (IsTok is_with) (λ y. IsSomeProps properties))

  abbrev LowChanged : Item × (Item × Props) → Type 0
  LowChanged = OkPair Fine (λ x. OkPair Fine (λ y. LowProps k))

  abbrev changed : Items → Out (Item × (Item × Props))
  changed w = both (token is_name) (λ x. both (token is_with) (λ y r. read_some_props properties k inner (read_props properties k inner (length r)) r)) w

  low_some : 1 ≤ k → Low_of (IsSomeProps properties) (LowProps k)
  low_some some = (some_name ∷ after_label, one_prop some_name, some_prop some_name (name_label some_name name_passes), low_prop k some some_name)

  low_rest : 1 ≤ k → Low_of (Pair (IsTok is_with) (λ y. IsSomeProps properties)) (OkPair Fine (λ y. LowProps k))
  low_rest some = let p = low_some some in (with_item ∷ p.0, (with_item, p.1), (with_item ∷ [], p.0, with_tok, p.2, refl), (tt, p.3))

  some_props_say : 1 ≤ k → (w : Items) → Says (IsSomeProps properties) (LowProps k) any_stop w (read_some_props properties k inner (read_props properties k inner (length w)) w)
  unfolding read_some_props
  some_props_say some w = cond_both (leb 1 k) _ _ (Says (IsSomeProps properties) (LowProps k) any_stop w)
      (λ e. says_some_props k inner reads properties some (read_props properties k inner (length w)) w (λ r less. says_props k inner reads properties (length w) r (omega arith)))
      (λ e. absurd (let h = leb-false 1 k e in omega arith))

  changed_reads : 1 ≤ k → (w : Items) → Says Changed LowChanged any_stop w (changed w)
  changed_reads some w = says_then is_name some_name name_passes (λ x. Pair (IsTok is_with) (λ y. IsSomeProps properties)) (λ x. OkPair Fine (λ y. LowProps k)) any_stop (λ x. low_rest some)
      (λ x. both (token is_with) (λ y r. read_some_props properties k inner (read_props properties k inner (length r)) r)) w
      (λ x r t less. says_then is_with with_item with_tok.0 (λ y. IsSomeProps properties) (λ y. LowProps k) any_stop (λ y. low_some some)
      (λ y z. read_some_props properties k inner (read_props properties k inner (length z)) z) r (λ y z s shorter. some_props_say some z))

  changed_says : 1 ≤ k → (x : Item) (s : Items) → sees_with (x ∷ s) ≡ true → Says IsFilled (LowFilled k) any_stop (x ∷ s) (mapped (λ p. (Some (label p.0), p.1.1)) (changed (x ∷ s)))
  changed_says some x s e = says_far Changed IsFilled LowChanged (LowFilled k) any_stop (λ p. (Some (label p.0), p.1.1)) 1 (x ∷ s)
      (record { into = λ p u q. changed_record p.0 p.1.0 q.0 q.3.0 q.3.1 q.2 q.3.2 q.3.3 (q.4 ∙ ap (λ z. q.0 ++ z) q.3.4); back = back; fit = λ p u q o. o.1.1; unfit = λ p u q o. (tt, (tt, o)) })
      (changed (x ∷ s)) (changed_reads some (x ∷ s))
      (used_by Changed LowChanged any_stop refl (x ∷ []) s (low_rest some).0 (x, (low_rest some).1) (x ∷ [], (low_rest some).0, (both_seen.0, refl), (low_rest some).2, refl) (tt, (low_rest some).3)
      (changed (x ∷ s)) (changed_reads some (x ∷ s)))
    where
      both_seen : (is_name x ≡ true) × (passes is_with (first s) ≡ true)
      both_seen = and_parts (is_name x) (passes is_with (first s)) (sym (sees_with-is (x ∷ s)) ∙ e)

      back : (p : Filled) (u v : Items) → take 2 (u ++ v) ≡ take 2 (x ∷ s) → any_stop (first v) ≡ true → IsFilled p u
          → (q : Item × (Item × Props)) × (p ≡ filled (Some (label q.0)) q.1.1) × Changed q u
      back p u v ef st n = changed_back p.0 p.1 u v (same_first (u ++ v) (x ∷ s) ef) (same_second (u ++ v) (x ∷ s) ef) n
        where
          changed_back : (base : Option (List ℕ)) (ps : Props) (u v : Items) → first (u ++ v) ≡ Some x → first (drop 1 (u ++ v)) ≡ first s → IsRecord base ps u
              → (q : Item × (Item × Props)) × (filled base ps ≡ filled (Some (label q.0)) q.1.1) × Changed q u
          changed_back _ ps u v f g (whole_record n) = absurd (no_props_with ps u v (ap (passes is_name) f ∙ both_seen.0) (ap (passes is_with) g ∙ both_seen.1) n)
          changed_back _ ps u v f g (changed_record l y i j r t m h q) = ((l, (y, ps)), refl, (i, j ++ r, t, (j, r, m, h, refl), q))

  -- ---- where they don't

  abbrev whole : Items → Out Props
  whole w = read_props properties k inner (length w) w

  whole_reads : (w : Items) → Says (IsProps properties) (LowProps k) any_stop w (whole w)
  whole_reads w = says_props k inner reads properties (length w) w (omega arith)

  unnamed_says : (w : Items) → passes is_name (first w) ≡ false → Says IsFilled (LowFilled k) any_stop w (mapped (λ ps. (None, ps)) (whole w))
  unnamed_says w e = says_mapped (IsProps properties) IsFilled (LowProps k) (LowFilled k) any_stop (λ ps. (None, ps)) w
      (record { into = λ p u n. whole_record n; back = λ p u v ef st n. back p.0 p.1 u v ef n; fit = λ p u n o. o; unfit = λ p u n o. o })
      (whole w) (whole_reads w)
    where
      back : (base : Option (List ℕ)) (ps : Props) (u v : Items) → first (u ++ v) ≡ first w → IsRecord base ps u → (qs : Props) × (filled base ps ≡ filled None qs) × IsProps properties qs u
      back _ ps u v ef (whole_record n) = (ps, refl, n)
      back _ ps u v ef (changed_record l y i j r t m h q) = absurd (both_ways (passes is_name (first w)) e (ap (passes is_name) (sym ef) ∙ (changed_sees l y i j r u v t m q).0))

  named_says : 1 ≤ k → (x : Item) (s : Items) → is_name x ≡ true → passes is_with (first s) ≡ false → Says IsFilled (LowFilled k) any_stop (x ∷ s) (mapped (λ ps. (None, ps)) (whole (x ∷ s)))
  named_says some x s e none = says_far (IsProps properties) IsFilled (LowProps k) (LowFilled k) any_stop (λ ps. (None, ps)) 1 (x ∷ s)
      (record { into = λ p u n. whole_record n; back = λ p u v ef st n. back p.0 p.1 u v (same_second (u ++ v) (x ∷ s) ef) n; fit = λ p u n o. o; unfit = λ p u n o. o })
      (whole (x ∷ s)) (whole_reads (x ∷ s))
      (used_by (IsProps properties) (LowProps k) any_stop refl (x ∷ []) s after_label (one_prop x) (props_some (some_prop x (name_label x e))) (low_prop k some x) (whole (x ∷ s)) (whole_reads (x ∷ s)))
    where
      back : (base : Option (List ℕ)) (ps : Props) (u v : Items) → first (drop 1 (u ++ v)) ≡ first s → IsRecord base ps u → (qs : Props) × (filled base ps ≡ filled None qs) × IsProps properties qs u
      back _ ps u v g (whole_record n) = (ps, refl, n)
      back _ ps u v g (changed_record l y i j r t m h q) = absurd (both_ways (passes is_with (first s)) none (ap (passes is_with) (sym g) ∙ (changed_sees l y i j r u v t m q).1))

  -- with no level left
  bare : (x : Item) (s : Items) → is_name x ≡ true → leb 1 k ≡ false → whole (x ∷ s) ≡ Bad true (x ∷ s)
  unfolding read_props read_some_props
  bare x s e none = rw (not_of (a_name ∷ []) (a_symbol symbol.CloseBrace ∷ []) x refl e, none, name_label x e) refl

  filled_tall : leb 1 k ≡ false → (base : Option (List ℕ)) (ps : Props) (u v : Items) → passes is_name (first (u ++ v)) ≡ true → IsRecord base ps u → in_props ps ≤ k → ⊥
  filled_tall none _ _ u v e (whole_record (props_end y t)) o =
      may_apart (a_symbol symbol.CloseBrace ∷ []) (a_name ∷ []) (first (u ++ v)) refl (front_passes closes y u [] u v t (sym (append-nil u))) e
  filled_tall none _ ps u v e (whole_record (props_some n)) o = let h = some_level ps u n in let g = leb-false 1 k none in omega arith
  filled_tall none _ ps u v e (changed_record l y i j r t m n q) o = let h = some_level ps r n in let g = leb-false 1 k none in omega arith

  bare_says : (x : Item) (s : Items) → is_name x ≡ true → leb 1 k ≡ false → Says IsFilled (LowFilled k) any_stop (x ∷ s) (mapped (λ ps. (None, ps)) (whole (x ∷ s)))
  bare_says x s e none = rw (bare x s e none) (says_deep IsFilled (LowFilled k) any_stop (low_filled k) is_name
      (λ y h. (after_label, (None, one_prop y), whole_record (props_some (some_prop y (name_label y h)))))
      (λ p u v h n o. filled_tall none p.0 p.1 u v h n o) (x ∷ s) e)

  whole_says : (w : Items) → (leb 1 k && sees_with w) ≡ false → Says IsFilled (LowFilled k) any_stop w (mapped (λ ps. (None, ps)) (whole w))
  whole_says [] e = unnamed_says [] refl
  whole_says (x ∷ s) e = elim (cases_Bool (is_name x)) [
    | inr f ↦ unnamed_says (x ∷ s) f
    | inl f ↦ elim (cases_Bool (leb 1 k)) [
      | inr g ↦ bare_says x s f g
      | inl g ↦ named_says (leb-true 1 k g) x s f (let h = rw (g, sees_with-is (x ∷ s), f) at e in h)
    ]
  ]

  seen_says : (w : Items) → (leb 1 k && sees_with w) ≡ true → Says IsFilled (LowFilled k) any_stop w (mapped (λ p. (Some (label p.0), p.1.1)) (changed w))
  seen_says [] e = absurd (let h = (and_parts (leb 1 k) (sees_with []) e).1 in let f : false ≡ true = sym (sees_with-is []) ∙ h in cc)
  seen_says (x ∷ s) e = let p = and_parts (leb 1 k) (sees_with (x ∷ s)) e in changed_says (leb-true 1 k p.0) x s p.1

  pub says_properties : (w : Items) → Says IsFilled (LowFilled k) any_stop w (read_properties k inner w)
  unfolding read_properties
  says_properties w = cond_both (leb 1 k && sees_with w) _ _ (Says IsFilled (LowFilled k) any_stop w) (seen_says w) (whole_says w)
