-- Where a value belongs among blocks, and what a put into one of them makes of all.
use Rattle.std.proofs.Common.{◌≡◌, ℕ, suc, zero, ℤ, pos, ◌+◌, ◌-◌, ◌<◌, ◌≤◌, Bool, true, false, List, [], ◌∷◌, ◌++◌, length, take, drop, get_or, map, refl, sym, ap, ◌∙◌, subst, arith, append-nil, append_assoc, length-append, add-one, take-append-drop, length-take-le, length-drop, Result, Ok, Err, OnOk, OnErr}
use Rattle.std.proofs.Math.ListN.{set}
use Rattle.std.proofs.Math.Seq.{take-length, drop-length}
use Rattle.std.specs.List.{AllByRecursion, insert, flat_map}
use Rattle.std.specs.declared.cmp.Ordering.TheVariants.{Less, Equal, Greater}
use Rattle.std.specs.Ordering.{int_cmp, is_lt}
use Rattle.std.specs.Cmp.{int_cmp_total}
use Rattle.std.specs.BTreeMap.{insert_entry}
use Rattle.fx_value.specs.declared.scalar.Scalar.{Scalar}
use Rattle.fx_series.specs.declared.series.TimeValue.{TimeValue}
use Rattle.fx_series.specs.Read.{pairs}
use Rattle.fx_series.specs.Blocks.{entries_in, Before, After, Rises, IsBlock, AreBlocks, Belongs, HasRoom, IsCut, last_time}
use Rattle.fx_series.proofs.InBlock.{less_is}
use Rattle.fx_series.proofs.Rising.{reach, insert_past, insert_before, insert_end, rises-insert, length-insert, rises_front, rises_back, first_less, before_front}

abbrev Blocks : Type 0
Blocks = List (List TimeValue)

-- the blocks before one, it, and those behind it
parted : (bs : Blocks) (i : ℕ) (d : List TimeValue) → i < length bs → entries_in bs ≡ entries_in (take i bs) ++ (pairs (get_or bs i d) ++ entries_in (drop (suc i) bs))
parted [] i d within = absurd (omega arith)
parted (b ∷ bs) zero d within = refl
parted (b ∷ bs) (suc i) d within = ap (λ l. pairs b ++ l) (parted bs i d (omega arith)) ∙ sym (append_assoc (pairs b) (entries_in (take i bs)) (pairs (get_or bs i d) ++ entries_in (drop (suc i) bs)))

parted_set : (bs : Blocks) (i : ℕ) (new : List TimeValue) → i < length bs → entries_in (set bs i new) ≡ entries_in (take i bs) ++ (pairs new ++ entries_in (drop (suc i) bs))
parted_set [] i new within = absurd (omega arith)
parted_set (b ∷ bs) zero new within = refl
parted_set (b ∷ bs) (suc i) new within = ap (λ l. pairs b ++ l) (parted_set bs i new (omega arith)) ∙ sym (append_assoc (pairs b) (entries_in (take i bs)) (pairs new ++ entries_in (drop (suc i) bs)))

pub put_block : (bs : Blocks) (i : ℕ) (d new : List TimeValue) (t : ℤ) (v : Scalar) → i < length bs → Before t (entries_in (take i bs)) → After t (entries_in (drop (suc i) bs))
    → pairs new ≡ insert_entry int_cmp (pairs (get_or bs i d)) t v → entries_in (set bs i new) ≡ insert_entry int_cmp (entries_in bs) t v
put_block bs i d new t v within below above is =
    let old : List TimeValue = get_or bs i d in
    let front : List (ℤ × Scalar) = entries_in (take i bs) in
    let behind : List (ℤ × Scalar) = entries_in (drop (suc i) bs) in
    parted_set bs i new within
    ∙ ap (λ l. front ++ (l ++ behind)) is
    ∙ ap (λ l. front ++ l) (sym (insert_before t v (pairs old) behind above))
    ∙ sym (insert_past t v front (pairs old ++ behind) below)
    ∙ ap (λ l. insert_entry int_cmp l t v) (sym (parted bs i d within))

-- each block after a put
pub each_set : (bs : Blocks) (i : ℕ) (new : List TimeValue) → AllByRecursion IsBlock bs → IsBlock new → AllByRecursion IsBlock (set bs i new)
each_set [] i new h n = h
each_set (b ∷ bs) zero new h n = (n, h.1)
each_set (b ∷ bs) (suc i) new h n = (h.0, each_set bs i new h.1 n)

pub block_at : (bs : Blocks) (i : ℕ) (d : List TimeValue) → AllByRecursion IsBlock bs → i < length bs → IsBlock (get_or bs i d)
block_at [] i d h within = absurd (omega arith)
block_at (b ∷ bs) zero d h within = h.0
block_at (b ∷ bs) (suc i) d h within = block_at bs i d h.1 (omega arith)

pub rises_at : (bs : Blocks) (i : ℕ) (d : List TimeValue) → i < length bs → Rises (entries_in bs) → Rises (pairs (get_or bs i d))
rises_at bs i d within h =
    rises_front (pairs (get_or bs i d)) (entries_in (drop (suc i) bs)) (rises_back (entries_in (take i bs)) (pairs (get_or bs i d) ++ entries_in (drop (suc i) bs)) (subst Rises (parted bs i d within) h))

length-pairs : (ps : List TimeValue) → length (pairs ps) ≡ length ps
length-pairs [] = refl
length-pairs (p ∷ ps) = ap suc (length-pairs ps)

pub put_is_block : (old new : List TimeValue) (t : ℤ) (v : Scalar) → length old < 1024 → pairs new ≡ insert_entry int_cmp (pairs old) t v → IsBlock new
put_is_block old new t v room is =
    let long = length-insert t v (pairs old) in
    (omega (arith, long.1, sym (length-pairs new) ∙ ap length is), omega (arith, long.0, sym (length-pairs new) ∙ ap length is, length-pairs old))

pub put_are_blocks : (bs : Blocks) (i : ℕ) (d new : List TimeValue) (t : ℤ) (v : Scalar) → AreBlocks bs → i < length bs → length (get_or bs i d) < 1024 → Before t (entries_in (take i bs)) → After t (entries_in (drop (suc i) bs))
    → pairs new ≡ insert_entry int_cmp (pairs (get_or bs i d)) t v → AreBlocks (set bs i new)
put_are_blocks bs i d new t v are within room below above is = record {
  each = each_set bs i new are.each (put_is_block (get_or bs i d) new t v room is);
  rising = subst Rises (sym (put_block bs i d new t v within below above is)) (rises-insert t v (entries_in bs) are.rising);
}

-- ---- which block
last_before : (t : ℤ) (b : List TimeValue) → Rises (pairs b) → 0 < length b → int_cmp (last_time b) t ≡ Less → Before t (pairs b)
last_before t [] h some less = absurd (omega arith)
last_before t (v ∷ []) h some less = (less, tt)
last_before t (v ∷ w ∷ vs) h some less =
    let rest = last_before t (w ∷ vs) h.1 (omega arith) less in
    (int_cmp_total.trans v.time w.time t h.0.0 rest.0, rest)

taken : (bs : Blocks) (i : ℕ) (d : List TimeValue) → i < length bs → entries_in (take (suc i) bs) ≡ entries_in (take i bs) ++ pairs (get_or bs i d)
taken [] i d within = absurd (omega arith)
taken (b ∷ bs) zero d within = append-nil (pairs b)
taken (b ∷ bs) (suc i) d within = ap (λ l. pairs b ++ l) (taken bs i d (omega arith)) ∙ sym (append_assoc (pairs b) (entries_in (take i bs)) (pairs (get_or bs i d)))

pub below_block : (bs : Blocks) (i : ℕ) (d : List TimeValue) (t : ℤ) → i < length bs → AreBlocks bs → int_cmp (last_time (get_or bs i d)) t ≡ Less → Before t (entries_in (take (suc i) bs))
below_block bs i d t within are less =
    let b : List TimeValue = get_or bs i d in
    let front : List (ℤ × Scalar) = entries_in (take i bs) in
    let whole : Rises ((front ++ pairs b) ++ entries_in (drop (suc i) bs)) = subst Rises (parted bs i d within ∙ sym (append_assoc front (pairs b) (entries_in (drop (suc i) bs)))) are.rising in
    let rising = rises_front (front ++ pairs b) (entries_in (drop (suc i) bs)) whole in
    let some = (block_at bs i d are.each within).0 in
    subst (Before t) (sym (taken bs i d within))
    (before_front t front (pairs b) rising (last_before t b (rises_back front (pairs b) rising) some less) (omega (arith, some, length-pairs b)))

all_behind : (a t : ℤ) (fs : List (ℤ × Scalar)) → is_lt (int_cmp a t) ≡ false → After a fs → After t fs
all_behind a t [] h after = tt
all_behind a t (f ∷ fs) h after = (reach a t f.0 h after.0, all_behind a t fs h after.1)

last_after : (t : ℤ) (b : List TimeValue) (fs : List (ℤ × Scalar)) → Rises (pairs b ++ fs) → 0 < length b → is_lt (int_cmp (last_time b) t) ≡ false → After t fs
last_after t [] fs h some late = absurd (omega arith)
last_after t (v ∷ []) fs h some late = all_behind v.time t fs late h.0
last_after t (v ∷ w ∷ vs) fs h some late = last_after t (w ∷ vs) fs h.1 (omega arith) late

pub above_block : (bs : Blocks) (i : ℕ) (d : List TimeValue) (t : ℤ) → i < length bs → AreBlocks bs → is_lt (int_cmp (last_time (get_or bs i d)) t) ≡ false → After t (entries_in (drop (suc i) bs))
above_block bs i d t within are late =
    let rest = rises_back (entries_in (take i bs)) (pairs (get_or bs i d) ++ entries_in (drop (suc i) bs)) (subst Rises (parted bs i d within) are.rising) in
    last_after t (get_or bs i d) (entries_in (drop (suc i) bs)) rest (block_at bs i d are.each within).0 late

-- ---- a block more at the end
in_append : (bs cs : Blocks) → entries_in (bs ++ cs) ≡ entries_in bs ++ entries_in cs
in_append [] cs = refl
in_append (b ∷ bs) cs = ap (λ l. pairs b ++ l) (in_append bs cs) ∙ sym (append_assoc (pairs b) (entries_in bs) (entries_in cs))

pub push_block : (bs : Blocks) (t : ℤ) (v : Scalar) → Before t (entries_in bs) → entries_in (bs ++ (record { time = t; value = v } ∷ []) ∷ []) ≡ insert_entry int_cmp (entries_in bs) t v
push_block bs t v before = in_append bs ((record { time = t; value = v } ∷ []) ∷ []) ∙ sym (insert_end t v (entries_in bs) before)

each_push : (bs : Blocks) (b : List TimeValue) → AllByRecursion IsBlock bs → IsBlock b → AllByRecursion IsBlock (bs ++ b ∷ [])
each_push [] b h n = (n, tt)
each_push (c ∷ bs) b h n = (h.0, each_push bs b h.1 n)

pub push_are_blocks : (bs : Blocks) (t : ℤ) (v : Scalar) → AreBlocks bs → Before t (entries_in bs) → AreBlocks (bs ++ (record { time = t; value = v } ∷ []) ∷ [])
push_are_blocks bs t v are before = record {
  each = each_push bs (record { time = t; value = v } ∷ []) are.each (omega arith, omega arith);
  rising = subst Rises (sym (push_block bs t v before)) (rises-insert t v (entries_in bs) are.rising);
}

-- ---- a block cut in two

pairs-append : (ps qs : List TimeValue) → pairs (ps ++ qs) ≡ pairs ps ++ pairs qs
pairs-append [] qs = refl
pairs-append (p ∷ ps) qs = ap (λ l. (p.time, p.value) ∷ l) (pairs-append ps qs)

pub cut_joined : (bs : Blocks) (i : ℕ) (d left right : List TimeValue) → i < length bs → left ++ right ≡ get_or bs i d → entries_in (insert (set bs i left) (suc i) right) ≡ entries_in bs
cut_joined [] i d left right within is = absurd (omega arith)
cut_joined (b ∷ bs) zero d left right within is = sym (append_assoc (pairs left) (pairs right) (entries_in bs)) ∙ ap (λ l. l ++ entries_in bs) (sym (pairs-append left right) ∙ ap pairs is)
cut_joined (b ∷ bs) (suc i) d left right within is = ap (λ l. pairs b ++ l) (cut_joined bs i d left right (omega arith) is)

pub cut_each : (bs : Blocks) (i : ℕ) (left right : List TimeValue) → AllByRecursion IsBlock bs → IsBlock left → IsBlock right → i < length bs → AllByRecursion IsBlock (insert (set bs i left) (suc i) right)
cut_each [] i left right h l r within = absurd (omega arith)
cut_each (b ∷ bs) zero left right h l r within = (l, (r, h.1))
cut_each (b ∷ bs) (suc i) left right h l r within = (h.0, cut_each bs i left right h.1 l r (omega arith))

pub cut_take : (bs : Blocks) (i : ℕ) (left right : List TimeValue) → i < length bs → take i (insert (set bs i left) (suc i) right) ≡ take i bs
cut_take [] i left right within = absurd (omega arith)
cut_take (b ∷ bs) zero left right within = refl
cut_take (b ∷ bs) (suc i) left right within = ap (λ l. b ∷ l) (cut_take bs i left right (omega arith))

pub cut_drop : (bs : Blocks) (i : ℕ) (left right : List TimeValue) → i < length bs → drop (suc (suc i)) (insert (set bs i left) (suc i) right) ≡ drop (suc i) bs
cut_drop [] i left right within = absurd (omega arith)
cut_drop (b ∷ bs) zero left right within = refl
cut_drop (b ∷ bs) (suc i) left right within = cut_drop bs i left right (omega arith)

pub cut_left : (bs : Blocks) (i : ℕ) (d left right : List TimeValue) → i < length bs → get_or (insert (set bs i left) (suc i) right) i d ≡ left
cut_left [] i d left right within = absurd (omega arith)
cut_left (b ∷ bs) zero d left right within = refl
cut_left (b ∷ bs) (suc i) d left right within = cut_left bs i d left right (omega arith)

pub cut_right : (bs : Blocks) (i : ℕ) (d left right : List TimeValue) → i < length bs → get_or (insert (set bs i left) (suc i) right) (suc i) d ≡ right
cut_right [] i d left right within = absurd (omega arith)
cut_right (b ∷ bs) zero d left right within = refl
cut_right (b ∷ bs) (suc i) d left right within = cut_right bs i d left right (omega arith)

pub cut_long : (bs : Blocks) (i : ℕ) (left right : List TimeValue) → i < length bs → length (insert (set bs i left) (suc i) right) ≡ suc (length bs)
cut_long [] i left right within = absurd (omega arith)
cut_long (b ∷ bs) zero left right within = refl
cut_long (b ∷ bs) (suc i) left right within = ap suc (cut_long bs i left right (omega arith))

-- where the last block ends before a time, all do
pub all_before : (bs : Blocks) (d : List TimeValue) (t : ℤ) → 0 < length bs → AreBlocks bs → int_cmp (last_time (get_or bs (length bs - 1) d)) t ≡ Less → Before t (entries_in bs)
all_before bs d t some are less =
    let step : suc (length bs - 1) ≡ length bs = omega arith in
    subst (λ (l : Blocks). Before t (entries_in l)) (ap (λ n. take n bs) step ∙ take-length bs) (below_block bs (length bs - 1) d t (omega arith) are less)

-- a put into the block where a value belongs
module _ (bs : Blocks) (i : ℕ) (d new : List TimeValue) (t t' : ℤ) (v : Scalar) (belongs : Belongs bs t i) (is : d ≡ get_or bs i d) (when : t' ≡ t) (put : pairs new ≡ insert_entry int_cmp (pairs d) t' v) where
  there : pairs new ≡ insert_entry int_cmp (pairs (get_or bs i d)) t v
  there = put ∙ (λ j. insert_entry int_cmp (pairs (is j)) (when j) v)

  above_it : After t (entries_in (drop (suc i) bs))
  above_it = subst (λ n. After t (entries_in (drop n bs))) (add-one i) belongs.above

  pub put_in : entries_in (set bs i new) ≡ insert_entry int_cmp (entries_in bs) t v
  put_in = put_block bs i d new t v belongs.within belongs.below above_it there

  pub put_in_are : AreBlocks bs → HasRoom bs i → AreBlocks (set bs i new)
  put_in_are are room = put_are_blocks bs i d new t v are belongs.within (room.room d belongs.within) belongs.below above_it there

-- a block that is as it was
pub same_set : (bs : Blocks) (i : ℕ) (d new : List TimeValue) → i < length bs → d ≡ get_or bs i d → new ≡ d → set bs i new ≡ bs
same_set [] i d new within is same = absurd (omega arith)
same_set (b ∷ bs) zero d new within is same = ap (λ x. x ∷ bs) (same ∙ is)
same_set (b ∷ bs) (suc i) d new within is same = ap (λ l. b ∷ l) (same_set bs i d new (omega arith) is same)

pub put_result_are : {E : Type 0} (r : Result (Unit {0}) E) (bs new : Blocks) → OnOk r (AreBlocks new) → OnErr r (new ≡ bs) → AreBlocks bs → AreBlocks new
put_result_are (Ok u) bs new ok err are = ok
put_result_are (Err e) bs new ok err are = subst AreBlocks (sym err) are

-- the last block, for a time behind all values
before_part : (t : ℤ) (es fs : List (ℤ × Scalar)) → Before t (es ++ fs) → Before t es
before_part t [] fs b = tt
before_part t (e ∷ es) fs b = (b.0, before_part t es fs b.1)

pub in_parts : (i : ℕ) (bs : Blocks) → entries_in bs ≡ entries_in (take i bs) ++ entries_in (drop i bs)
in_parts i bs = ap entries_in (sym (take-append-drop i bs)) ∙ in_append (take i bs) (drop i bs)

pub last_belongs : (bs : Blocks) (t : ℤ) → 0 < length bs → Before t (entries_in bs) → Belongs bs t (length bs - 1)
last_belongs bs t some before =
    let all : length bs - 1 + 1 ≡ length bs = omega arith in
    record {
      within = omega arith;
      below = before_part t (entries_in (take (length bs - 1) bs)) (entries_in (drop (length bs - 1) bs)) (subst (Before t) (in_parts (length bs - 1) bs) before);
      above = subst (λ (l : Blocks). After t (entries_in l)) (sym (ap (λ n. drop n bs) all ∙ drop-length bs)) tt;
    }

any_default : (bs : Blocks) (i : ℕ) (a b : List TimeValue) → i < length bs → get_or bs i a ≡ get_or bs i b
any_default [] i a b within = absurd (omega arith)
any_default (c ∷ bs) zero a b within = refl
any_default (c ∷ bs) (suc i) a b within = any_default bs i a b (omega arith)

-- a full block in its two halves
pub halves : (bs after new : Blocks) (i : ℕ) (d left right : List TimeValue) → i < length bs → after ≡ bs → d ≡ get_or after i d → ((e : List TimeValue) → length (get_or bs i e) ≡ 1024)
    → left ≡ take 512 d → right ≡ drop 512 d → new ≡ insert (set after i left) (i + 1) right → IsCut bs i new
halves bs after new i d left right within same is full l r e =
    let here : d ≡ get_or bs i d = is ∙ ap (λ (x : Blocks). get_or x i d) same in
    let long : length d ≡ 1024 = ap length here ∙ full d in
    let joined : left ++ right ≡ d = (λ j. l j ++ r j) ∙ take-append-drop 512 d in
    record {
      left = left;
      right = right;
      joined = λ x. joined ∙ here ∙ any_default bs i d x within;
      left_long = ap length l ∙ length-take-le 512 d (omega (arith, long));
      right_long = ap length r ∙ length-drop 512 d ∙ omega (arith, long);
      blocks = e ∙ (λ j. insert (set (same j) i left) (i + 1) right) ∙ ap (λ n. insert (set bs i left) n right) (add-one i);
    }

-- what holds of the blocks after a cut
module _ (bs new : Blocks) (i : ℕ) (t : ℤ) (are : AreBlocks bs) (belongs : Belongs bs t i) (cut : IsCut bs i new) where
  same_entries : entries_in new ≡ entries_in bs
  same_entries = ap entries_in cut.blocks ∙ cut_joined bs i [] cut.left cut.right belongs.within (cut.joined [])

  pub cut_entries : entries_in new ≡ entries_in bs
  cut_entries = same_entries

  pub cut_are : AreBlocks new
  cut_are = record {
    each = subst (AllByRecursion IsBlock) (sym cut.blocks) (cut_each bs i cut.left cut.right are.each (omega (arith, cut.left_long), omega (arith, cut.left_long)) (omega (arith, cut.right_long), omega (arith, cut.right_long)) belongs.within);
    rising = subst Rises (sym same_entries) are.rising;
  }

  pub cut_longer : length new ≡ suc (length bs)
  cut_longer = ap length cut.blocks ∙ cut_long bs i cut.left cut.right belongs.within

  -- the earlier half
  pub cut_earlier : is_lt (int_cmp (last_time (get_or new i [])) t) ≡ false → Belongs new t i
  cut_earlier late = record {
    within = omega (arith, cut_longer, belongs.within);
    below = subst (λ (l : Blocks). Before t (entries_in l)) (sym (ap (take i) cut.blocks ∙ cut_take bs i cut.left cut.right belongs.within)) belongs.below;
    above = subst (λ n. After t (entries_in (drop n new))) (sym (add-one i)) (above_block new i [] t (omega (arith, cut_longer, belongs.within)) cut_are late);
  }

  -- the later half
  pub cut_later : is_lt (int_cmp (last_time (get_or new i [])) t) ≡ true → Belongs new t (i + 1)
  cut_later early = record {
    within = omega (arith, cut_longer, belongs.within);
    below = subst (λ n. Before t (entries_in (take n new))) (sym (add-one i)) (below_block new i [] t (omega (arith, cut_longer, belongs.within)) cut_are (less_is (last_time (get_or new i [])) t early));
    above = subst (λ n. After t (entries_in (drop n new))) (sym (add-one (i + 1) ∙ ap suc (add-one i)))
        (subst (λ (l : Blocks). After t (entries_in l)) (sym (ap (drop (suc (suc i))) cut.blocks ∙ cut_drop bs i cut.left cut.right belongs.within)) (subst (λ n. After t (entries_in (drop n bs))) (add-one i) belongs.above));
  }

  pub room_earlier : HasRoom new i
  room_earlier = record { room = λ d within. omega (arith, ap (λ (l : Blocks). length (get_or l i d)) cut.blocks, ap length (cut_left bs i d cut.left cut.right belongs.within), cut.left_long) }

  pub room_later : HasRoom new (i + 1)
  room_later = record { room = λ d within. omega (arith, ap (λ n. length (get_or new n d)) (add-one i), ap (λ (l : Blocks). length (get_or l (suc i) d)) cut.blocks, ap length (cut_right bs i d cut.left cut.right belongs.within), cut.right_long) }

  pub half_fits : (slice : Blocks) (half : ℕ) → slice ≡ new → (is_lt (int_cmp (last_time (get_or slice i [])) t) ≡ true → half ≡ i + 1) → (is_lt (int_cmp (last_time (get_or slice i [])) t) ≡ false → half ≡ i) → Belongs new t half × HasRoom new half
  half_fits slice half is later earlier = by (is_lt (int_cmp (last_time (get_or new i [])) t)) refl
    where
      at : is_lt (int_cmp (last_time (get_or slice i [])) t) ≡ is_lt (int_cmp (last_time (get_or new i [])) t)
      at = ap (λ (l : Blocks). is_lt (int_cmp (last_time (get_or l i [])) t)) is

      by : (b : Bool) → is_lt (int_cmp (last_time (get_or new i [])) t) ≡ b → Belongs new t half × HasRoom new half
      by true e = let same = later (at ∙ e) in (subst (Belongs new t) (sym same) (cut_later e), subst (HasRoom new) (sym same) room_later)
      by false e = let same = earlier (at ∙ e) in (subst (Belongs new t) (sym same) (cut_earlier e), subst (HasRoom new) (sym same) room_earlier)
