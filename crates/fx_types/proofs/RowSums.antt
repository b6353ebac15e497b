-- Sums over the labels of a row that is listed, entry by entry.
use Rattle.std.proofs.Common.{◌≡◌, refl, sym, ap, subst, ◌∙◌, ℕ, zero, suc, ◌+◌, ◌≤◌, ◌<◌, Bool, true, false, List, [], ◌∷◌, ◌++◌, length, max, arith}
use Rattle.std.specs.Prelude.{if◌then◌else◌}
use Rattle.std.specs.Cmp.Lexicographic.{bytes_decides, nat_list_eq_equiv}
use Rattle.fx_base.specs.Text.{same_text}
use Rattle.fx_types.specs.Term.{Label}
use Rattle.fx_types.specs.Ground.{GroundField, GroundRow, listed}
use Rattle.fx_types.specs.Size.{AreDistinct, total}
use Rattle.fx_types.proofs.Choices.{chosen, passed, never, by_cases, either_also, neither}

-- labels

pub same_is : (l x : Label) → same_text l x ≡ true → l ≡ x
same_is l x e = (bytes_decides l x).0 e

pub same_itself : (l : Label) → same_text l l ≡ true
same_itself l = nat_list_eq_equiv.refl l

either_more : (c a b : Bool) → (if c then true else a) ≡ false → (a ≡ false → b ≡ false) → (if c then true else b) ≡ false
either_more true a b q f = q
either_more false a b q f = f q

either_true : (c a b : Bool) → (if c then true else a) ≡ true → (a ≡ true → b ≡ true) → (if c then true else b) ≡ true
either_true true a b q f = refl
either_true false a b q f = f q

listed_more : (l x : Label) (before : List Label) → listed l before ≡ false → same_text l x ≡ false → listed l (before ++ x ∷ []) ≡ false
listed_more l x [] h e = passed (same_text l x) true false e
listed_more l x (b ∷ bs) h e = either_more (same_text l b) (listed l bs) (listed l (bs ++ x ∷ [])) h (λ q. listed_more l x bs q e)

listed_there : (l x : Label) (before : List Label) → listed l before ≡ true → listed l (before ++ x ∷ []) ≡ true
listed_there l x [] h = never false h refl
listed_there l x (b ∷ bs) h = either_true (same_text l b) (listed l bs) (listed l (bs ++ x ∷ [])) h (λ q. listed_there l x bs q)

listed_last : (x : Label) (before : List Label) → listed x (before ++ x ∷ []) ≡ true
listed_last x [] = chosen (same_text x x) true false (same_itself x)
listed_last x (b ∷ bs) = either_also (same_text x b) (listed x (bs ++ x ∷ [])) (listed_last x bs)

listed_less : (l x : Label) (before : List Label) → listed l (before ++ x ∷ []) ≡ false → listed l before ≡ false
listed_less l x before h = by_cases (listed l before) (λ e. never (listed l (before ++ x ∷ [])) (listed_there l x before e) h) (λ e. e)

listed_apart : (l x : Label) (before : List Label) → listed l (before ++ x ∷ []) ≡ false → same_text l x ≡ false
listed_apart l x before h =
    by_cases (same_text l x)
    (λ e. never (listed l (before ++ x ∷ [])) (subst (λ y. listed y (before ++ x ∷ []) ≡ true) (sym (same_is l x e)) (listed_last x before)) h)
    (λ e. e)

-- entries: what a row has at a label, and what that counts
pub record Item : Type 0 where
  pub label : Label
  pub field : GroundField
  pub weight : ℕ

-- the row of the entries over another
abbrev pub over : List Item → GroundRow → GroundRow
over [] r l = r l
over (e ∷ es) r l = if same_text l e.label then e.field else over es r l

-- the weights of the entries whose labels don't stand before them
abbrev pub weighed : List Label → List Item → ℕ
weighed before [] = 0
weighed before (e ∷ es) = (if listed e.label before then 0 else e.weight) + weighed (before ++ e.label ∷ []) es

-- the same, of one label
abbrev pub weight_at : List Label → List Item → Label → ℕ
weight_at before [] l = 0
weight_at before (e ∷ es) l =
    (if same_text l e.label then (if listed e.label before then 0 else e.weight) else 0) + weight_at (before ++ e.label ∷ []) es l

-- the labels themselves
abbrev pub firsts : List Label → List Item → List Label
firsts before [] = []
firsts before (e ∷ es) =
    if listed e.label before then firsts (before ++ e.label ∷ []) es else e.label ∷ firsts (before ++ e.label ∷ []) es

-- sums

total-plus : (a b : Label → ℕ) (ls : List Label) → total (λ l. a l + b l) ls ≡ total a ls + total b ls
total-plus a b [] = refl
total-plus a b (l ∷ ls) = let h : total (λ l. a l + b l) ls ≡ total a ls + total b ls = total-plus a b ls in omega arith

no_more : (x : Label) (w : ℕ) (ls : List Label) → listed x ls ≡ false → total (λ l. if same_text l x then w else 0) ls ≡ 0
no_more x w [] h = refl
no_more x w (l ∷ ls) h =
    let apart : (same_text x l ≡ false) × (listed x ls ≡ false) = neither (same_text x l) (listed x ls) h in
    let here : (if same_text l x then w else 0) ≡ 0 = passed (same_text l x) w 0 (nat_list_eq_equiv.symm l x ∙ apart.0) in
    let more : total (λ l. if same_text l x then w else 0) ls ≡ 0 = no_more x w ls apart.1 in
    omega arith

at_once : (x : Label) (w : ℕ) (ls : List Label) → AreDistinct ls → total (λ l. if same_text l x then w else 0) ls ≤ w
at_once x w [] d = omega arith
at_once x w (l ∷ ls) d =
    by_cases (same_text l x)
    (λ e. let here : (if same_text l x then w else 0) ≡ w = chosen (same_text l x) w 0 e in
    let gone : total (λ l. if same_text l x then w else 0) ls ≡ 0 = no_more x w ls (subst (λ y. listed y ls ≡ false) (same_is l x e) d.0) in
    omega arith)
    (λ e. let here : (if same_text l x then w else 0) ≡ 0 = passed (same_text l x) w 0 e in
    let more : total (λ l. if same_text l x then w else 0) ls ≤ w = at_once x w ls d.1 in
    omega arith)

pub total_weight : (before : List Label) (es : List Item) (ls : List Label) → AreDistinct ls → total (weight_at before es) ls ≤ weighed before es
total_weight before [] ls d = none ls
  where
    none : (ls : List Label) → total (weight_at before []) ls ≤ 0
    none [] = omega arith
    none (l ∷ ls) = let h : total (weight_at before []) ls ≤ 0 = none ls in omega arith
total_weight before (e ∷ es) ls d =
    let w : ℕ = if listed e.label before then 0 else e.weight in
    let one : total (λ l. if same_text l e.label then w else 0) ls ≤ w = at_once e.label w ls d in
    let more : total (weight_at (before ++ e.label ∷ []) es) ls ≤ weighed (before ++ e.label ∷ []) es = total_weight (before ++ e.label ∷ []) es ls d in
    let both : total (weight_at before (e ∷ es)) ls ≡ total (λ l. if same_text l e.label then w else 0) ls + total (weight_at (before ++ e.label ∷ []) es) ls =
    total-plus (λ l. if same_text l e.label then w else 0) (weight_at (before ++ e.label ∷ []) es) ls in
    omega arith

weight_at_most : (before : List Label) (es : List Item) (l : Label) → weight_at before es l ≤ weighed before es
weight_at_most before es l = let h : total (weight_at before es) (l ∷ []) ≤ weighed before es = total_weight before es (l ∷ []) (refl, tt) in omega arith

-- labels that are listed no more

firsts_apart : (x : Label) (before : List Label) (es : List Item) → listed x before ≡ true → listed x (firsts before es) ≡ false
firsts_apart x before [] h = refl
firsts_apart x before (e ∷ es) h =
    let more : listed x (firsts (before ++ e.label ∷ []) es) ≡ false = firsts_apart x (before ++ e.label ∷ []) es (listed_there x e.label before h) in
    by_cases (listed e.label before)
    (λ t. subst (λ ls. listed x ls ≡ false) (sym (chosen (listed e.label before) (firsts (before ++ e.label ∷ []) es) (e.label ∷ firsts (before ++ e.label ∷ []) es) t)) more)
    (λ f. subst (λ ls. listed x ls ≡ false) (sym (passed (listed e.label before) (firsts (before ++ e.label ∷ []) es) (e.label ∷ firsts (before ++ e.label ∷ []) es) f))
    (by_cases (same_text x e.label)
    (λ t. never (listed e.label before) (subst (λ y. listed y before ≡ true) (same_is x e.label t) h) f)
    (λ g. passed (same_text x e.label) true (listed x (firsts (before ++ e.label ∷ []) es)) g ∙ more)))

pub firsts_distinct : (before : List Label) (es : List Item) → AreDistinct (firsts before es)
firsts_distinct before [] = tt
firsts_distinct before (e ∷ es) =
    let more : AreDistinct (firsts (before ++ e.label ∷ []) es) = firsts_distinct (before ++ e.label ∷ []) es in
    by_cases (listed e.label before)
    (λ t. subst AreDistinct (sym (chosen (listed e.label before) (firsts (before ++ e.label ∷ []) es) (e.label ∷ firsts (before ++ e.label ∷ []) es) t)) more)
    (λ f. subst AreDistinct (sym (passed (listed e.label before) (firsts (before ++ e.label ∷ []) es) (e.label ∷ firsts (before ++ e.label ∷ []) es) f))
    (firsts_apart e.label (before ++ e.label ∷ []) es (listed_last e.label before), more))

-- what a label counts, by a relation P between fields and numbers below a bound M

module _ (P : GroundField → ℕ → Type 0) (M : ℕ) where
  -- the weight is the least number that the field counts
  abbrev pub Counts : GroundField → ℕ → Type 0
  Counts f w = ((k : ℕ) → P f k → k < M → w ≤ k) × ((k : ℕ) → w ≤ k → k < M → P f k)

  abbrev pub AllCount : List Item → Type 0
  AllCount [] = Unit {0}
  AllCount (e ∷ es) = Counts e.field e.weight × AllCount es

  pub counts_each : (before : List Label) (es : List Item) (r : GroundRow) → AllCount es → weighed before es < M → ((l : Label) (k : ℕ) → P (r l) k)
      → (l : Label) → listed l before ≡ false → P (over es r l) (weight_at before es l)
  counts_each before [] r all lt rest l h = rest l 0
  counts_each before (e ∷ es) r all lt rest l h =
      let w : ℕ = if listed e.label before then 0 else e.weight in
      let most : weight_at before (e ∷ es) l ≤ weighed before (e ∷ es) = weight_at_most before (e ∷ es) l in
      by_cases (same_text l e.label)
      (λ t. let same : l ≡ e.label = same_is l e.label t in
      let first : w ≡ e.weight = passed (listed e.label before) 0 e.weight (subst (λ y. listed y before ≡ false) same h) in
      let here : (if same_text l e.label then w else 0) ≡ w = chosen (same_text l e.label) w 0 t in
      subst (λ f. P f (weight_at before (e ∷ es) l)) (sym (chosen (same_text l e.label) e.field (over es r l) t))
      (all.0.1 (weight_at before (e ∷ es) l) (omega arith) (omega arith)))
      (λ f. let here : (if same_text l e.label then w else 0) ≡ 0 = passed (same_text l e.label) w 0 f in
      let less : weighed (before ++ e.label ∷ []) es < M = omega arith in
      let more : P (over es r l) (weight_at (before ++ e.label ∷ []) es l) =
      counts_each (before ++ e.label ∷ []) es r all.1 less rest l (listed_more l e.label before h f) in
      let is : weight_at (before ++ e.label ∷ []) es l ≡ weight_at before (e ∷ es) l = omega arith in
      subst (λ g. P g (weight_at before (e ∷ es) l)) (sym (passed (same_text l e.label) e.field (over es r l) f))
      (subst (P (over es r l)) is more))

  pub counts_least : (before : List Label) (es : List Item) (r q : GroundRow) (m : Label → ℕ) → AllCount es → ((l : Label) → m l < M) → ((l : Label) → P (q l) (m l))
      → ((l : Label) → listed l before ≡ false → q l ≡ over es r l) → weighed before es ≤ total m (firsts before es)
  counts_least before [] r q m all small each same = omega arith
  counts_least before (e ∷ es) r q m all small each same =
      let more : weighed (before ++ e.label ∷ []) es ≤ total m (firsts (before ++ e.label ∷ []) es) =
      counts_least (before ++ e.label ∷ []) es r q m all.1 small each
      (λ l h. same l (listed_less l e.label before h) ∙ passed (same_text l e.label) e.field (over es r l) (listed_apart l e.label before h)) in
      by_cases (listed e.label before)
      (λ t. let none : (if listed e.label before then 0 else e.weight) ≡ 0 = chosen (listed e.label before) 0 e.weight t in
      subst (λ ls. weighed before (e ∷ es) ≤ total m ls)
      (sym (chosen (listed e.label before) (firsts (before ++ e.label ∷ []) es) (e.label ∷ firsts (before ++ e.label ∷ []) es) t)) (omega arith))
      (λ f. let some : (if listed e.label before then 0 else e.weight) ≡ e.weight = passed (listed e.label before) 0 e.weight f in
      let field : q e.label ≡ e.field = same e.label f ∙ chosen (same_text e.label e.label) e.field (over es r e.label) (same_itself e.label) in
      let here : e.weight ≤ m e.label = all.0.0 (m e.label) (subst (λ g. P g (m e.label)) field (each e.label)) (small e.label) in
      subst (λ ls. weighed before (e ∷ es) ≤ total m ls)
      (sym (passed (listed e.label before) (firsts (before ++ e.label ∷ []) es) (e.label ∷ firsts (before ++ e.label ∷ []) es) f)) (omega arith))

-- labels without end that aren't listed: longer ones

abbrev pub longest : List Item → ℕ
longest [] = 0
longest (e ∷ es) = max (length e.label) (longest es)

abbrev pub zeros : ℕ → Label
zeros zero = []
zeros (suc n) = 0 ∷ zeros n

pub length-zeros : (n : ℕ) → length (zeros n) ≡ n
length-zeros zero = refl
length-zeros (suc n) = ap suc (length-zeros n)

abbrev pub longer : ℕ → ℕ → List Label
longer b zero = []
longer b (suc n) = zeros b ∷ longer (suc b) n

apart_by_length : (l x : Label) → length l < length x → same_text l x ≡ false
apart_by_length l x h = by_cases (same_text l x) (λ e. let same : length l ≡ length x = ap length (same_is l x e) in absurd (omega arith)) (λ e. e)

longer_apart : (l : Label) (b n : ℕ) → length l < b → listed l (longer b n) ≡ false
longer_apart l b zero h = refl
longer_apart l b (suc n) h =
    let size : length (zeros b) ≡ b = length-zeros b in
    passed (same_text l (zeros b)) true (listed l (longer (suc b) n)) (apart_by_length l (zeros b) (omega arith)) ∙ longer_apart l (suc b) n (omega arith)

pub longer_distinct : (b n : ℕ) → AreDistinct (longer b n)
longer_distinct b zero = tt
longer_distinct b (suc n) =
    let size : length (zeros b) ≡ b = length-zeros b in
    (longer_apart (zeros b) (suc b) n (omega arith), longer_distinct (suc b) n)

pub over_longer : (es : List Item) (r : GroundRow) (l : Label) → longest es < length l → over es r l ≡ r l
over_longer [] r l h = refl
over_longer (e ∷ es) r l h =
    passed (same_text l e.label) e.field (over es r l) (nat_list_eq_equiv.symm l e.label ∙ apart_by_length e.label l (omega arith))
    ∙ over_longer es r l (omega arith)

pub total_longer : (m : Label → ℕ) (b n : ℕ) → ((l : Label) → b ≤ length l → 1 ≤ m l) → n ≤ total m (longer b n)
total_longer m b zero h = omega arith
total_longer m b (suc n) h =
    let size : length (zeros b) ≡ b = length-zeros b in
    let one : 1 ≤ m (zeros b) = h (zeros b) (omega arith) in
    let more : n ≤ total m (longer (suc b) n) = total_longer m (suc b) n (λ l le. h l (omega arith)) in
    omega arith
