-- Safe ends one after another.
use Rattle.std.proofs.Common.{ℕ, Bool, true, false}
use Rattle.std.specs.Prelude.{cond, nat_le}
use Rattle.fx_value.specs.Ends.{End, Gives, Faults, Stuck, More, later, and_then, cut}
use Rattle.fx_build.specs.Safe.{IsSafe}

pub safe_later : {A : Type 0} (P : A → Type 0) (n : ℕ) (e : End A) → IsSafe P e → IsSafe P (later n e)
safe_later P n (Gives v t) h = h
safe_later P n (Faults f t) h = tt
safe_later P n Stuck h = h
safe_later P n More h = tt

pub safe_then : {A B : Type 0} (P : A → Type 0) (Q : B → Type 0) (e : End A) (f : A → End B) → IsSafe P e → ((v : A) → P v → IsSafe Q (f v)) → IsSafe Q (and_then e f)
safe_then P Q (Gives v t) f h next = safe_later Q t (f v) (next v h)
safe_then P Q (Faults fault t) f h next = tt
safe_then P Q Stuck f h next = absurd h
safe_then P Q More f h next = tt

pub safe_as : {A : Type 0} (P Q : A → Type 0) (e : End A) → ((v : A) → P v → Q v) → IsSafe P e → IsSafe Q e
safe_as P Q (Gives v t) f h = f v h
safe_as P Q (Faults fault t) f h = tt
safe_as P Q Stuck f h = h
safe_as P Q More f h = tt

-- safe for each type is safe for all of them, where there is one
pub safe_every : {A I : Type 0} (Has : I → Type 0) (P : I → A → Type 0) (e : End A) → ((t : I) → Has t → IsSafe (P t) e) → (i : I) → Has i
    → IsSafe (λ v. (t : I) → Has t → P t v) e
safe_every Has P (Gives v t) h i some = h
safe_every Has P (Faults fault t) h i some = tt
safe_every Has P Stuck h i some = h i some
safe_every Has P More h i some = tt

cut_value : {A : Type 0} (P : A → Type 0) (v : A) (t : ℕ) (within : Bool) → P v → IsSafe P (cond within (Gives v t) More)
cut_value P v t true h = h
cut_value P v t false h = tt

cut_fault : {A : Type 0} (P : A → Type 0) (e : End A) (within : Bool) → IsSafe P e → IsSafe P (cond within e More)
cut_fault P e true h = h
cut_fault P e false h = tt

-- under a limit too
pub safe_cut : {A : Type 0} (P : A → Type 0) (limit : ℕ) (e : End A) → IsSafe P e → IsSafe P (cut limit e)
safe_cut P limit (Gives v t) h = cut_value P v t (nat_le t limit) h
safe_cut P limit (Faults fault t) h = cut_fault P (Faults fault t) (nat_le t limit) tt
safe_cut P limit Stuck h = h
safe_cut P limit More h = tt
