-- The store of a run.
use Rattle.std.proofs.Common.{◌≡◌, ℕ, ◌+◌, ◌<◌, ◌≤◌, Bool, true, false, ◌||◌, List, [], ◌∷◌, ◌++◌, length, take, fold, get_or, refl, sym, ◌∙◌, ap, subst, arith, if◌then◌else◌}
use Rattle.std.specs.Cmp.Lexicographic.{nat_list_eq_equiv}
use Rattle.std.specs.List.{AllByRecursion, list_any}
use Rattle.std.proofs.Math.Bool.{or-true}
use Rattle.std.proofs.lemmas.List.{take_more, take_all}
use Rattle.std.proofs.lemmas.List.Folds.{list_any-append}
use Rattle.std.proofs.lemmas.List.Sums.{fold-append}
use Rattle.std.proofs.lemmas.Option.{slice_get_read}
use Rattle.fx_base.specs.Text.{same_text}
use Rattle.fx_load.specs.declared.loads.Load.{Load}
use Rattle.fx_load.specs.Loads.{AreReady, HasBucket}
use Rattle.fx_series.specs.Store.{Kept, StandsFor, is_added, with_bucket}
use Rattle.fx_top.specs.Answer.{NamesAt, buckets_of}
use Rattle.fx_top.specs.Stage.{IsKept}

same_as_itself : (text : List ℕ) → same_text text text ≡ true
same_as_itself text = nat_list_eq_equiv.refl text

-- a bucket that is added stays so, and is there then
stays : (buckets : List (List ℕ)) (added name : List ℕ) → is_added buckets name ≡ true → is_added (with_bucket buckets added) name ≡ true
stays buckets added name h = by (is_added buckets added)
  where
    by : (b : Bool) → is_added (if b then buckets else buckets ++ added ∷ []) name ≡ true
    by true = h
    by false = list_any-append (same_text name) buckets (added ∷ []) ∙ ap (λ b. b || list_any (same_text name) (added ∷ [])) h

there : (buckets : List (List ℕ)) (name : List ℕ) → is_added (with_bucket buckets name) name ≡ true
there buckets name = by (is_added buckets name) refl
  where
    by : (b : Bool) → is_added buckets name ≡ b → is_added (if b then buckets else buckets ++ name ∷ []) name ≡ true
    by true e = e
    by false e = list_any-append (same_text name) buckets (name ∷ []) ∙ rw (same_as_itself name) (or-true (is_added buckets name))

abbrev added_by : List (List ℕ) → List Load → List (List ℕ)
added_by buckets loads = fold (λ all l. with_bucket all l.bucket) buckets loads

stays_all : (loads : List Load) (buckets : List (List ℕ)) (name : List ℕ) → is_added buckets name ≡ true → is_added (added_by buckets loads) name ≡ true
stays_all [] buckets name h = h
stays_all (l ∷ loads) buckets name h = stays_all loads (with_bucket buckets l.bucket) name (stays buckets l.bucket name h)

all_added : (loads : List Load) (buckets : List (List ℕ)) (kept : Kept) → kept.buckets ≡ added_by buckets loads → AllByRecursion (HasBucket kept) loads
all_added [] buckets kept e = tt
all_added (l ∷ loads) buckets kept e =
    (subst (λ b. is_added b l.bucket ≡ true) (sym e) (stays_all loads (with_bucket buckets l.bucket) l.bucket (there buckets l.bucket)), all_added loads (with_bucket buckets l.bucket) kept e)

-- a store with the buckets of loads and no points is ready for them
pub new_is_ready : (loads : List Load) (kept : Kept) → StandsFor kept (buckets_of loads) [] → AreReady kept loads
new_is_ready loads kept stands = record {
  buckets = buckets_of loads;
  stored = [];
  stands = stands;
  added = all_added loads [] kept stands.buckets_are;
  few = rw stands.puts_are (omega arith);
}

pub ready_is_kept : (loads : List Load) (kept : Kept) → AreReady kept loads → IsKept kept
ready_is_kept loads kept h = record { buckets = h.buckets; stored = h.stored; stands = h.stands }

-- the buckets of the loads before a place, and of one more
pub one_more : (loads : List Load) (i : ℕ) (l : Load) → i < length loads → l ≡ get_or loads i l → buckets_of (take (i + 1) loads) ≡ with_bucket (buckets_of (take i loads)) l.bucket
one_more loads i l within is =
    ap buckets_of (take_more loads i l within) ∙ fold-append (λ all x. with_bucket all x.bucket) [] (take i loads) (get_or loads i l ∷ []) ∙ ap (λ x. with_bucket (buckets_of (take i loads)) x.bucket) (sym is)

pub all_of : (loads : List Load) (i : ℕ) → length loads ≤ i → buckets_of (take i loads) ≡ buckets_of loads
all_of loads i past = ap buckets_of (take_all i loads past)

-- the load at a place names its file
pub names_at : (loads : List Load) (place : ℕ) (l : Load) (name : List ℕ) → place < length loads → l ≡ get_or loads place l → name ≡ l.file → NamesAt loads place name
names_at loads place l name within is e = (l, slice_get_read loads (length loads) place l refl within is, e)
