-- Renamed keys, and which rows have one new key under them.
use Rattle.std.proofs.Common.{◌≡◌, ℕ, ◌<◌, ◌+◌, suc, Bool, true, false, not, ◌||◌, ◌&&◌, List, [], ◌∷◌, drop, get_or, length, map, filter_map, refl, sym, ap, subst, ◌∙◌, arith, drop-cons}
use Rattle.std.specs.Prelude.{cond, fold, None, Some, if◌then◌else◌}
use Rattle.std.specs.Bool.{OnTrue}
use Rattle.std.specs.declared.cmp.Ordering.TheVariants.{Less, Equal, Greater}
use Rattle.std.specs.Cmp.Lexicographic.{nat_list_cmp_total, same_text as equal_text}
use Rattle.std.specs.FinMap as fin
use Rattle.std.specs.FinMap.Entries.{by_order, put, where_key}
use Rattle.std.specs.List.{AllByRecursion, cons_option, filter, list_any}
use Rattle.std.specs.Ordering.{eq_by_cmp}
use Rattle.std.proofs.lemmas.Cmp.{nat_list_eq_equiv}
use Rattle.fx_base.specs.Text.{same_text, text_cmp}
use Rattle.fx_value.proofs.Rows.{text_same}
use Rattle.fx_value.specs.declared.scalar.Scalar.{Scalar}
use Rattle.fx_data.specs.Columns.{entry_of, key_with, parts_of}
use Rattle.fx_data.specs.Regrouped.{after, entry_after, new_key}
use Rattle.fx_data.specs.Table.{HasKey, HasRisingLabels}
use Rattle.fx_data.specs.declared.key.Key.{Key}
use Rattle.fx_data.specs.declared.key.KeyEntry.{KeyEntry}
use Rattle.fx_data.proofs.Columns.{entries_back, key_with_rises}
use Rattle.fx_group.specs.Answer.{Row}
use Rattle.fx_group.specs.Group.{is_listed}
use Rattle.fx_shape.specs.Columns.{Label}
use Rattle.fx_shape.specs.Relabelled.{put_as, relabelled}
use Rattle.fx_shape.specs.Rename.{entry_renamed, is_covered, key_renamed, new_name, pinned_key, row_renamed}
use Rattle.fx_shape.specs.Renamed.{fixes_key, is_fixed}
use Rattle.fx_shape.specs.Run.{has_label, HaveOneKey}
use Rattle.fx_shape.proofs.Left.{get_left, rising_left, tied}
use Rattle.fx_shape.proofs.Named.{entries_left}

-- ---- the labels of a renamed key rise

entry_rises : (olds news : List Label) (out : Key) (e : KeyEntry) (b : Bool) → HasRisingLabels out
    → HasRisingLabels (if b then out else key_with out (new_name olds news e.label) e.value)
entry_rises olds news out e true h = h
entry_rises olds news out e false h = key_with_rises out (new_name olds news e.label) e.value h

entries_rise : (olds news : List Label) (es : List KeyEntry) (out : Key) → HasRisingLabels out → HasRisingLabels (fold (entry_renamed olds news) out es)
entries_rise olds news [] out h = h
entries_rise olds news (e ∷ es) out h =
    entries_rise olds news es (entry_renamed olds news out e) (entry_rises olds news out e (e.pinned || is_covered olds news e.label) h)

pub renamed_rises : (olds news : List Label) (key : Key) → HasRisingLabels key → HasRisingLabels (key_renamed olds news key)
renamed_rises olds news key h = entries_rise olds news key.entries (pinned_key key) (rising_left (λ e. e.pinned) key.entries h)

-- ---- what a new name is

is_text : (a b : Label) → same_text a b ≡ true → a ≡ b
is_text a b same = equal_text a b (sym same)

or_false : (a b : Bool) → (a || b) ≡ false → (a ≡ false) × (b ≡ false)
or_false true b h = cc
or_false false b h = (refl, h)

or_true : (a b : Bool) → (a || b) ≡ true → (a ≡ true → b ≡ true) → b ≡ true
or_true true b h g = g refl
or_true false b h g = h

-- a label that is no old name keeps its name
no_old : (olds news : List Label) (l : Label) → is_listed olds l ≡ false → new_name olds news l ≡ l
no_old [] news l h = refl
no_old (old ∷ olds) [] l h = refl
no_old (old ∷ olds) (new ∷ news) l h =
    let apart = or_false (same_text l old) (is_listed olds l) h in
    ap (λ b. if b then new else new_name olds news l) apart.0 ∙ no_old olds news l apart.1

-- what isn't listed as a new name is the name of itself alone
no_new : (olds news : List Label) (l x : Label) → is_listed news l ≡ false → new_name olds news x ≡ l → x ≡ l
no_new [] news l x h is = is
no_new (old ∷ olds) [] l x h is = is
no_new (old ∷ olds) (new ∷ news) l x h is =
    let apart = or_false (same_text l new) (is_listed news l) h in at (same_text x old) apart.0 is (no_new olds news l x apart.1)
  where
    at : (b : Bool) → same_text l new ≡ false → (if b then new else new_name olds news x) ≡ l → (new_name olds news x ≡ l → x ≡ l) → x ≡ l
    at true apart same later = let tie : same_text l new ≡ true = ap (same_text l) same ∙ nat_list_eq_equiv.refl l in cc
    at false apart same later = later same

module _ (key renamed : Key) where
  -- an old name whose new one stands in the renamed key stood in the key
  old_stood : (olds news : List Label) (l : Label) → fixes_key olds news key renamed ≡ true → is_listed olds l ≡ true → has_label renamed (new_name olds news l) ≡ true → has_label key l ≡ true
  old_stood [] news l fixes listed has = cc
  old_stood (old ∷ olds) [] l fixes listed has = cc
  old_stood (old ∷ olds) (new ∷ news) l fixes listed has = at (same_text l old) refl listed has (old_stood olds news l)
    where
      both : (a b : Bool) → (a && b) ≡ true → (a ≡ true) × (b ≡ true)
      both true b h = (refl, h)
      both false b h = cc

      stood : (a b : Bool) → (not a || b) ≡ true → a ≡ true → b ≡ true
      stood true b h g = h
      stood false b h g = cc

      at : (b : Bool) → b ≡ same_text l old → (b || is_listed olds l) ≡ true → has_label renamed (if b then new else new_name olds news l) ≡ true
          → (fixes_key olds news key renamed ≡ true → is_listed olds l ≡ true → has_label renamed (new_name olds news l) ≡ true → has_label key l ≡ true) → has_label key l ≡ true
      at true same _ has later =
          ap (has_label key) (is_text l old (sym same))
          ∙ stood (has_label renamed new) (has_label key old) (both (is_fixed key renamed old new) (fixes_key olds news key renamed) fixes).0 has
      at false same listed has later = later (both (is_fixed key renamed old new) (fixes_key olds news key renamed) fixes).1 listed has

-- ---- the labels of a renamed key

abbrev Labelled : List KeyEntry → Label → Bool
Labelled es l = list_any (λ e. same_text e.label l) es

-- a label of a key with one more column
put_label : (n : Label) (v : Scalar) (l : Label) (es : List KeyEntry) → Labelled (map entry_of (put text_cmp n (v, false) (map parts_of es))) l ≡ true → (same_text n l || Labelled es l) ≡ true
put_label n v l [] h = h
put_label n v l (e ∷ es) h =
    elim (text_cmp n e.label) as (λ o. text_cmp n e.label ≡ o
    → Labelled (map entry_of (by_order o ((n, (v, false)) ∷ parts_of e ∷ map parts_of es) ((e.label, (v, false)) ∷ map parts_of es) (parts_of e ∷ put text_cmp n (v, false) (map parts_of es)))) l ≡ true
    → (same_text n l || (same_text e.label l || Labelled es l)) ≡ true) [
      | Less ↦ λ o h. ap (λ (ds : List KeyEntry). same_text n l || (same_text e.label l || Labelled ds l)) (sym (entries_back es)) ∙ h
      | Equal ↦ λ o h. right (same_text n l) _ (ap (λ (ds : List KeyEntry). same_text e.label l || Labelled ds l) (sym (entries_back es)) ∙ h)
      | Greater ↦ λ o h. past (same_text e.label l) (same_text n l) (Labelled es l) (Labelled (map entry_of (put text_cmp n (v, false) (map parts_of es))) l) h (put_label n v l es)
    ] refl h
  where
    right : (a b : Bool) → b ≡ true → (a || b) ≡ true
    right true b h = refl
    right false b h = h

    past : (here new there made : Bool) → (here || made) ≡ true → (made ≡ true → (new || there) ≡ true) → (new || (here || there)) ≡ true
    past here true there made h g = refl
    past true false there made h g = refl
    past false false there made h g = g h

module _ (olds news : List Label) (l : Label) (fresh : is_listed news l ≡ false) where
  one_label : (out : Key) (e : KeyEntry) (b : Bool) → has_label (if b then out else key_with out (new_name olds news e.label) e.value) l ≡ true → (same_text e.label l || has_label out l) ≡ true
  one_label out e true h = right (same_text e.label l) (has_label out l) h
    where
      right : (a b : Bool) → b ≡ true → (a || b) ≡ true
      right true b h = refl
      right false b h = h
  one_label out e false h = at (same_text (new_name olds news e.label) l) refl (put_label (new_name olds news e.label) e.value l out.entries h)
    where
      at : (b : Bool) → b ≡ same_text (new_name olds news e.label) l → (b || has_label out l) ≡ true → (same_text e.label l || has_label out l) ≡ true
      at true same h =
          ap (λ (x : Label). same_text x l || has_label out l) (no_new olds news l e.label fresh (is_text (new_name olds news e.label) l (sym same)))
          ∙ ap (λ b. b || has_label out l) (nat_list_eq_equiv.refl l)
      at false same h = ap (λ b. same_text e.label l || b) h ∙ or_so (same_text e.label l)
        where
          or_so : (b : Bool) → (b || true) ≡ true
          or_so true = refl
          or_so false = refl

  all_labels : (es : List KeyEntry) (out : Key) → has_label (fold (entry_renamed olds news) out es) l ≡ true → (has_label out l || Labelled es l) ≡ true
  all_labels [] out h = ap (λ b. b || false) h
  all_labels (e ∷ es) out h =
      next (same_text e.label l) (has_label out l) (has_label (entry_renamed olds news out e) l) (Labelled es l) (all_labels es (entry_renamed olds news out e) h) (one_label out e (e.pinned || is_covered olds news e.label))
    where
      next : (here out made rest : Bool) → (made || rest) ≡ true → (made ≡ true → (here || out) ≡ true) → (out || (here || rest)) ≡ true
      next here true made rest h g = refl
      next true false made rest h g = refl
      next false false true rest h g = let none : false ≡ true = g refl in cc
      next false false false rest h g = h

pinned_label : (es : List KeyEntry) (l : Label) → Labelled (filter (λ e. e.pinned) es) l ≡ true → Labelled es l ≡ true
pinned_label [] l h = h
pinned_label (e ∷ es) l h = at e.pinned h (pinned_label es l)
  where
    at : (b : Bool) → Labelled (cond b (e ∷ filter (λ e. e.pinned) es) (filter (λ e. e.pinned) es)) l ≡ true → (Labelled (filter (λ e. e.pinned) es) l ≡ true → Labelled es l ≡ true) → (same_text e.label l || Labelled es l) ≡ true
    at true h g = into (same_text e.label l) (Labelled (filter (λ e. e.pinned) es) l) (Labelled es l) h g
      where
        into : (here old new : Bool) → (here || old) ≡ true → (old ≡ true → new ≡ true) → (here || new) ≡ true
        into true old new h g = refl
        into false old new h g = g h
    at false h g = ap (λ b. same_text e.label l || b) (g h) ∙ or_so (same_text e.label l)
      where
        or_so : (b : Bool) → (b || true) ≡ true
        or_so true = refl
        or_so false = refl

-- a label of the renamed key that keeps its name was one of the key
same_stood : (olds news : List Label) (key : Key) (l : Label) → is_listed news l ≡ false → has_label (key_renamed olds news key) l ≡ true → has_label key l ≡ true
same_stood olds news key l fresh has =
    or_true (has_label (pinned_key key) l) (has_label key l) (all_labels olds news l fresh key.entries (pinned_key key) has) (pinned_label key.entries l)

-- what stays and stands at a label of the renamed key afterwards, stood in the key
stood : (olds news : List Label) (key : Key) (l : Label) → fixes_key olds news key (key_renamed olds news key) ≡ true → not (is_covered olds news l) ≡ true
    → has_label (key_renamed olds news key) (new_name olds news l) ≡ true → has_label key l ≡ true
stood olds news key l fixes stays has = at (is_listed olds l) refl
  where
    fresh : (old new : Bool) → old ≡ false → not (new && not old) ≡ true → new ≡ false
    fresh true new is h = cc
    fresh false true is h = cc
    fresh false false is h = refl

    at : (b : Bool) → b ≡ is_listed olds l → has_label key l ≡ true
    at true is = old_stood key (key_renamed olds news key) olds news l fixes (sym is) has
    at false is =
        same_stood olds news key l (fresh (is_listed olds l) (is_listed news l) (sym is) stays)
        (ap (has_label (key_renamed olds news key)) (sym (no_old olds news l (sym is))) ∙ has)

-- ---- rows that have one key

key_has : (es : List KeyEntry) (a b : Row) (l : Label) → list_any (λ e. same_text e.label l) es ≡ true → HasKey es a → HasKey es b → fin.get a l ≡ fin.get b l
key_has [] a b l has h g = cc
key_has (e ∷ es) a b l has h g = at (same_text e.label l) refl has (λ later. key_has es a b l later h.1 g.1)
  where
    at : (c : Bool) → c ≡ same_text e.label l → (c || list_any (λ (e : KeyEntry). same_text e.label l) es) ≡ true
        → (list_any (λ (e : KeyEntry). same_text e.label l) es ≡ true → fin.get a l ≡ fin.get b l) → fin.get a l ≡ fin.get b l
    at true same _ later =
        let here : l ≡ e.label = sym (is_text e.label l (sym same)) in
        ap (fin.get a) here ∙ h.0 ∙ sym g.0 ∙ ap (fin.get b) (sym here)
    at false same has later = later has

-- what stands at a label of a relabelled map comes from the labels of this name alone
module _ (names : Label → Label) (q : Label) where
  here : Label → Bool
  here l = eq_by_cmp text_cmp q (names l)

  at_name : (es : List (Label × Scalar)) (out only : Row) → fin.get out q ≡ fin.get only q
      → fin.get (fold (put_as names) out es) q ≡ fin.get (fold (put_as names) only (where_key text_cmp here es)) q
  unfolding here
  at_name [] out only same = same
  at_name (e ∷ es) out only same = at (here e.0) refl (at_name es)
    where
      at : (b : Bool) → b ≡ here e.0 → ((out only : Row) → fin.get out q ≡ fin.get only q → fin.get (fold (put_as names) out es) q ≡ fin.get (fold (put_as names) only (where_key text_cmp here es)) q)
          → fin.get (fold (put_as names) (fin.insert out (names e.0) e.1) es) q ≡ fin.get (fold (put_as names) only (cond b (e ∷ where_key text_cmp here es) (where_key text_cmp here es))) q
      at true is later =
          later (fin.insert out (names e.0) e.1) (fin.insert only (names e.0) e.1)
          (fin.get-insert nat_list_cmp_total out (names e.0) e.1 q ∙ ap (cond (eq_by_cmp text_cmp q (names e.0)) (Some e.1)) same ∙ sym (fin.get-insert nat_list_cmp_total only (names e.0) e.1 q))
      at false is later =
          later (fin.insert out (names e.0) e.1) only
          (fin.get-insert nat_list_cmp_total out (names e.0) e.1 q ∙ ap (λ b. cond b (Some e.1) (fin.get out q)) (sym is) ∙ same)

  module _ (keeps : Label → Bool) where
    only_here : (row : Row) → fin.get (relabelled keeps names row) q ≡ fin.get (fold (put_as names) fin.empty (fin.entries (fin.retain_keys (fin.retain_keys row keeps) here))) q
    only_here row =
        at_name (fin.entries (fin.retain_keys row keeps)) fin.empty fin.empty refl
        ∙ ap (λ es. fin.get (fold (put_as names) fin.empty es) q) (sym (entries_left (fin.retain_keys row keeps) here))

    alike_here : (a b : Row) → ((l : Label) → keeps l ≡ true → here l ≡ true → fin.get a l ≡ fin.get b l) → fin.retain_keys (fin.retain_keys a keeps) here ≡ fin.retain_keys (fin.retain_keys b keeps) here
    alike_here a b same =
        fin.same_map nat_list_cmp_total text_same _ _ (λ l.
        get_left here (fin.retain_keys a keeps) l ∙ ap (λ o. cond (here l) o None) (get_left keeps a l)
        ∙ at l (here l) (keeps l) refl refl
        ∙ sym (get_left here (fin.retain_keys b keeps) l ∙ ap (λ o. cond (here l) o None) (get_left keeps b l)))
      where
        at : (l : Label) (c d : Bool) → c ≡ here l → d ≡ keeps l → cond c (cond d (fin.get a l) None) None ≡ cond c (cond d (fin.get b l) None) None
        at l true true c d = same l (sym d) (sym c)
        at l true false c d = refl
        at l false d c k = refl

    same_at : (a b : Row) → ((l : Label) → keeps l ≡ true → here l ≡ true → fin.get a l ≡ fin.get b l) → fin.get (relabelled keeps names a) q ≡ fin.get (relabelled keeps names b) q
    same_at a b same =
        only_here a ∙ ap (λ (m : Row). fin.get (fold (put_as names) fin.empty (fin.entries m)) q) (alike_here a b same) ∙ sym (only_here b)

-- ---- rows of one table have one new key

module _ (olds news : List Label) (key : Key) (fixes : fixes_key olds news key (key_renamed olds news key) ≡ true) where
  renamed_at : (a b : Row) (q : Label) → HasKey key.entries a → HasKey key.entries b → has_label (key_renamed olds news key) q ≡ true → fin.get (row_renamed olds news a) q ≡ fin.get (row_renamed olds news b) q
  unfolding here
  renamed_at a b q h g has =
      same_at (new_name olds news) q (λ l. not (is_covered olds news l)) a b
      (λ l stays is.
      key_has key.entries a b l
      (stood olds news key l fixes stays
      (ap (has_label (key_renamed olds news key)) (sym (is_text q (new_name olds news l) (sym (tied q (new_name olds news l)) ∙ is))) ∙ has)) h g)

  Within : List KeyEntry → Type 0
  Within = AllByRecursion (λ e. has_label (key_renamed olds news key) e.label ≡ true)

  same_entries : (es : List KeyEntry) (a b : Row) → Within es → HasKey key.entries a → HasKey key.entries b → filter_map (after (row_renamed olds news a)) es ≡ filter_map (after (row_renamed olds news b)) es
  unfolding Within
  same_entries [] a b within h g = refl
  same_entries (e ∷ es) a b within h g =
      λ i. cons_option (entry_after e (renamed_at a b e.label h g within.0 i)) (same_entries es a b within.1 h g i)

  all_within : Within (key_renamed olds news key).entries
  unfolding Within
  all_within = each (key_renamed olds news key).entries
    where
      or_so : (b : Bool) → (b || true) ≡ true
      or_so true = refl
      or_so false = refl

      wider : (x : KeyEntry) (all es : List KeyEntry) → AllByRecursion (λ e. list_any (λ d. same_text d.label e.label) all ≡ true) es → AllByRecursion (λ e. list_any (λ d. same_text d.label e.label) (x ∷ all) ≡ true) es
      wider x all [] h = tt
      wider x all (e ∷ es) h = (ap (λ b. same_text x.label e.label || b) h.0 ∙ or_so (same_text x.label e.label), wider x all es h.1)

      each : (es : List KeyEntry) → AllByRecursion (λ e. list_any (λ d. same_text d.label e.label) es ≡ true) es
      each [] = tt
      each (e ∷ es) = (ap (λ b. b || list_any (λ (d : KeyEntry). same_text d.label e.label) es) (nat_list_eq_equiv.refl e.label), wider e es es (each es))

  same_key : (a b : Row) → HasKey key.entries a → HasKey key.entries b → new_key (key_renamed olds news key) (row_renamed olds news a) ≡ new_key (key_renamed olds news key) (row_renamed olds news b)
  unfolding new_key
  same_key a b h g = λ i. record { entries = same_entries (key_renamed olds news key).entries a b all_within h g i }

  pub one_renamed : (rows : List Row) → AllByRecursion (HasKey key.entries) rows → HaveOneKey (key_renamed olds news key) (map (row_renamed olds news) rows)
  one_renamed [] h = tt
  one_renamed (first ∷ rows) h = each rows h.1
    where
      each : (rs : List Row) → AllByRecursion (HasKey key.entries) rs
          → AllByRecursion (λ row. new_key (key_renamed olds news key) row ≡ new_key (key_renamed olds news key) (row_renamed olds news first)) (map (row_renamed olds news) rs)
      each [] g = tt
      each (row ∷ rs) g = (same_key row first g.0 h.0, each rs g.1)

pub one_where : (olds news : List Label) (key renamed : Key) (rows made : List Row) (one : Bool) → AllByRecursion (HasKey key.entries) rows → renamed ≡ key_renamed olds news key
    → made ≡ map (row_renamed olds news) rows → one ≡ fixes_key olds news key renamed → OnTrue one (HaveOneKey renamed made)
one_where olds news key renamed rows made true h is rows_are fixes =
    subst (λ (k : Key). HaveOneKey k made) (sym is)
    (subst (λ (rs : List Row). HaveOneKey (key_renamed olds news key) rs) (sym rows_are) (one_renamed olds news key (ap (fixes_key olds news key) (sym is) ∙ sym fixes) rows h))
one_where olds news key renamed rows made false h is rows_are fixes = tt

-- ---- the test of names

module _ (olds news : List Label) (key renamed : Key) (i : ℕ) (old : Label) (within : i < length olds) (is : old ≡ get_or olds i old)
    (ahead : fixes_key olds news key renamed ≡ fixes_key (drop i olds) (drop i news) key renamed) where
  module _ (new : Label) (in_news : i < length news) (named : new ≡ get_or news i new) (b : Bool) (test : b ≡ is_fixed key renamed old new) where
    first_name : fixes_key olds news key renamed ≡ (b && fixes_key (drop (suc i) olds) (drop (suc i) news) key renamed)
    first_name =
        ahead ∙ (λ j. fixes_key (drop-cons olds i old within j) (drop-cons news i new in_news j) key renamed)
        ∙ ap (λ c. c && fixes_key (drop (suc i) olds) (drop (suc i) news) key renamed)
        ((λ j. is_fixed key renamed (sym is j) (sym named j)) ∙ sym test)

    pub next_names : b ≡ true → fixes_key olds news key renamed ≡ fixes_key (drop (i + 1) olds) (drop (i + 1) news) key renamed
    next_names so =
        first_name ∙ ap (λ c. c && fixes_key (drop (suc i) olds) (drop (suc i) news) key renamed) so
        ∙ (let next : suc i ≡ i + 1 = omega arith in ap (λ n. fixes_key (drop n olds) (drop n news) key renamed) next)
