-- What stands at the front of a list, and the longest run there of what passes a test.
use Rattle.std.proofs.Common.{◌≡◌, ℕ, suc, ◌+◌, ◌<◌, ◌≤◌, Bool, true, false, [], ◌∷◌, ◌++◌, length, take, drop, refl, sym, ap, ◌∙◌, arith}
use Rattle.std.specs.List.{prefix_len, list_all}
use Rattle.std.proofs.lemmas.Bool.{and_parts}
use Rattle.std.proofs.Math.Seq.{take-append_seam, drop-append_seam}
use Rattle.fx_scan.specs.Forms.{Bytes, begins}

pub by_bool : {P : Type 0} (b : Bool) → (b ≡ true → P) → (b ≡ false → P) → P
by_bool true t f = t refl
by_bool false t f = f refl

pub taken : (w u z : Bytes) → w ≡ u ++ z → take (length u) w ≡ u
taken w u z e = rw e (take-append_seam u z)

pub dropped : (w u z : Bytes) → w ≡ u ++ z → drop (length u) w ≡ z
dropped w u z e = rw e (drop-append_seam u z)

-- what passes at the front is no longer than the run
pub run_longest : (p : ℕ → Bool) (u z : Bytes) → list_all p u ≡ true → length u ≤ prefix_len p (u ++ z)
run_longest p [] z h = omega arith
run_longest p (b ∷ u) z h = let parts = and_parts (p b) (list_all p u) h in rw parts.0 (omega (arith, run_longest p u z parts.1))

-- and is the run where what follows doesn't pass
pub run_is : (p : ℕ → Bool) (u z : Bytes) → list_all p u ≡ true → begins p z ≡ false → prefix_len p (u ++ z) ≡ length u
run_is p [] [] h s = refl
run_is p [] (c ∷ z) h s = rw s refl
run_is p (b ∷ u) z h s = let parts = and_parts (p b) (list_all p u) h in rw parts.0 (omega (arith, run_is p u z parts.1 s))

pub run_passes : (p : ℕ → Bool) (w : Bytes) → list_all p (take (prefix_len p w) w) ≡ true
run_passes p [] = refl
run_passes p (b ∷ w) = by_bool (p b)
    (λ yes. let more : 1 + prefix_len p w ≡ suc (prefix_len p w) = omega arith in rw (yes, more, yes) (run_passes p w))
    (λ no. rw no refl)

pub run_stops : (p : ℕ → Bool) (w : Bytes) → begins p (drop (prefix_len p w) w) ≡ false
run_stops p [] = refl
run_stops p (b ∷ w) = by_bool (p b)
    (λ yes. let more : 1 + prefix_len p w ≡ suc (prefix_len p w) = omega arith in rw (yes, more) (run_stops p w))
    (λ no. rw no no)

pub run_within : (p : ℕ → Bool) (w : Bytes) → prefix_len p w ≤ length w
run_within p [] = omega arith
run_within p (b ∷ w) = by_bool (p b) (λ yes. rw yes (omega (arith, run_within p w))) (λ no. rw no (omega arith))

-- a run begins where its first byte passes
pub run_some : (p : ℕ → Bool) (w : Bytes) → begins p w ≡ true → 0 < prefix_len p w
run_some p [] h = absurd cc
run_some p (b ∷ w) h = rw h (omega arith)

pub begins_append : (p : ℕ → Bool) (u z : Bytes) → 0 < length u → begins p (u ++ z) ≡ begins p u
begins_append p [] z h = absurd (omega arith)
begins_append p (b ∷ u) z h = refl

-- of two fronts of one list, the shorter begins the longer
pub shorter_front : (u z v y : Bytes) → u ++ z ≡ v ++ y → length u ≤ length v → (x : Bytes) × (v ≡ u ++ x) × (z ≡ x ++ y)
shorter_front [] z v y e h = (v, refl, e)
shorter_front (b ∷ u) z [] y e h = absurd (omega arith)
shorter_front (b ∷ u) z (c ∷ v) y e h =
    let first : b ≡ c = cc in
    let rest : u ++ z ≡ v ++ y = cc in
    let more = shorter_front u z v y rest (omega arith) in
    let after = more.1 in
    (more.0, cc, more.2)

-- two fronts of one length are one
pub same_front : (u z v y : Bytes) → u ++ z ≡ v ++ y → length u ≡ length v → (u ≡ v) × (z ≡ y)
same_front u z v y e h = (
  sym (taken (u ++ z) u z refl) ∙ ap (λ n. take n (u ++ z)) h ∙ taken (u ++ z) v y e,
  sym (dropped (u ++ z) u z refl) ∙ ap (λ n. drop n (u ++ z)) h ∙ dropped (u ++ z) v y e,
)

-- an empty list has no front of some bytes
pub nothing_left : (u z : Bytes) → [] ≡ u ++ z → 0 < length u → ⊥
nothing_left [] z e h = omega arith
nothing_left (b ∷ u) z e h = cc
