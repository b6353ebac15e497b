-- Joins of streams that fit are safe.
use Rattle.std.proofs.Common.{◌≡◌, refl, subst, ◌∙◌, Bool, true, false, List, [], ◌∷◌, ℕ, ℤ, Option, Some, None}
use Rattle.std.specs.Prelude.{codes, IsTrue, if◌then◌else◌}
use Rattle.std.specs.FinMap.{get}
use mathlib.Core.Bool.{false≢true}
use Rattle.fx_base.specs.Text.{same_text}
use Rattle.fx_value.specs.Ends.{End, Gives, and_then}
use Rattle.fx_value.specs.declared.answer.Answer.TheVariants.{Cell}
use Rattle.fx_value.specs.declared.scalar.Scalar.{Scalar}
use Rattle.fx_value.specs.declared.scalar.Scalar.TheVariants as scalar
use Rattle.fx_types.proofs.Choices.{passed}
use Rattle.fx_types.specs.Ground.{GroundRow, g_bool, g_rec, g_stream, g_time, g_absent, g_is, is_plain, listed}
use Rattle.fx_types.specs.Term.{Label}
use Rattle.fx_data.specs.declared.table.Table.{Table}
use Rattle.fx_group.specs.Answer.{line_of, truth_of}
use Rattle.fx_join.specs.Join.{made, matched}
use Rattle.fx_join.specs.Joined.{joined}
use Rattle.fx_join.specs.SameTime.{joined_by_time, same_time, same_times, time_of}
use Rattle.fx_join.specs.declared.side.Side.{Side}
use Rattle.fx_join.specs.declared.side.Side.TheVariants.{Full, Inner, Left, Right}
use Rattle.fx_schemes.specs.Builtins.{IsLine}
use Rattle.fx_schemes.specs.Given.{text_at}
use Rattle.fx_schemes.specs.Line.{of_rows, parameters, piped, put}
use Rattle.fx_schemes.specs.Signature.{required_of}
use Rattle.fx_schemes.specs.declared.list.Builtin.{Builtin}
use Rattle.fx_schemes.specs.declared.list.Builtin.TheVariants as b
use Rattle.fx_meaning.specs.declared.stream.StreamFn.TheVariants as s
use Rattle.fx_meaning.specs.Ends.{◌>>=◌, found}
use Rattle.fx_meaning.specs.Forms.{argument}
use Rattle.fx_meaning.specs.Meaning.{Tests}
use Rattle.fx_meaning.specs.Rows.{Row, pair_of, row_meaning}
use Rattle.fx_meaning.specs.Value.{Val, Slots, look}
use Rattle.fx_build.specs.Bound.{typed}
use Rattle.fx_build.specs.Fit.{fits, keeps_at}
use Rattle.fx_plan.specs.Operators.{of_pairs, of_times, of_two, side_named}
use Rattle.fx_build.specs.Rows.{RowFits, TablesFit, is_column_of}
use Rattle.fx_build.specs.Safe.{IsSafe}
use Rattle.fx_plan.specs.Sources.{Stored}
use Rattle.fx_build.proofs.ColumnCalls.{one_among, word_safe}
use Rattle.fx_build.proofs.JoinLaws.{joined_safe}
use Rattle.fx_build.proofs.OperatorCalls.{AreTables, OperatorIsSafe, argument_safe, by_line}
use Rattle.fx_build.proofs.PairCalls.{pair_meaning_safe, pair_suits}
use Rattle.fx_build.proofs.ParamLaws.{Suits}
use Rattle.fx_build.proofs.RenameCalls.{nothing_fits}
use Rattle.fx_build.proofs.RowCalls.{line_safe, truth_safe}
use Rattle.fx_build.proofs.SafeLaws.{safe_then}

two_safe : (P : List Table → Type 0) (needs : GroundRow) (x y : Label) (r q : GroundRow) (f : List Table → List Table → End (List Table)) (tss : List (List Table)) → needs x ≡ g_is (g_stream r)
    → needs y ≡ g_is (g_stream q) → AreTables (x ∷ y ∷ []) needs tss → ((ls rs : List Table) → TablesFit r ls → TablesFit q rs → IsSafe P (f ls rs)) → IsSafe P (of_two f tss)
two_safe P needs x y r q f [] e k have h = absurd have
two_safe P needs x y r q f (ls ∷ []) e k have h = absurd have.1
two_safe P needs x y r q f (ls ∷ rs ∷ us ∷ tss) e k have h = absurd have.1.1
two_safe P needs x y r q f (ls ∷ rs ∷ []) e k have h =
    let left : have.0.0 ≡ r = cc (have.0.1, e) in
    let right : have.1.0.0 ≡ q = cc (have.1.0.1, k) in
    h ls rs (subst (λ p. TablesFit p ls) left have.0.2) (subst (λ p. TablesFit p rs) right have.1.0.2)

no_left : (x : Builtin) → listed (codes "l") (required_of x) ≡ false
no_left b.From = refl
no_left _ = refl

module _ (test : Tests) (limit : ℕ) (r q : GroundRow) where
  suits : (l k : Row) → RowFits r l → RowFits q k → (x : Label) → Suits (look x (pair_of (codes "l") (codes "r") l k)) (parameters ((codes "l", g_rec r) ∷ (codes "r", g_rec q) ∷ []) x) g_absent
  suits l k fit_l fit_k =
      pair_suits (codes "l") (codes "r") r q l k (parameters ((codes "l", g_rec r) ∷ (codes "r", g_rec q) ∷ [])) refl fit_l fit_k refl refl
      (λ x e d. passed (same_text x (codes "l")) (g_is (g_rec r)) (parameters ((codes "r", g_rec q) ∷ []) x) e ∙ passed (same_text x (codes "r")) (g_is (g_rec q)) g_absent d)

  matched_safe : (f : Val) → fits f (of_rows r q g_bool) → (l k : Row) → RowFits r l → RowFits q k → IsSafe (λ yes. Unit {0}) (matched (row_meaning test f) limit l k)
  matched_safe f h l k fit_l fit_k =
      safe_then (λ answer. IsSafe (λ yes. Unit {0}) (truth_of answer)) (λ yes. Unit {0}) (row_meaning test f (l ∷ k ∷ []) limit) truth_of
      (pair_meaning_safe test limit (codes "l") (codes "r") (g_rec r) (g_rec q) g_bool refl refl no_left (l ∷ k ∷ []) (pair_of (codes "l") (codes "r") l k) refl refl (suits l k fit_l fit_k)
      (λ answer. IsSafe (λ yes. Unit {0}) (truth_of answer)) truth_safe f h) (λ answer is. is)

  made_safe : (t : GroundRow) → ((l : Label) → IsTrue (is_plain (t l))) → (f : Val) → fits f (of_rows r q (g_rec t)) → (l k : Row) → RowFits r l → RowFits q k
      → IsSafe (RowFits t) (made (row_meaning test f) limit l k)
  made_safe t plain f h l k fit_l fit_k =
      safe_then (λ answer. IsSafe (RowFits t) (line_of answer)) (RowFits t) (row_meaning test f (l ∷ k ∷ []) limit) line_of
      (pair_meaning_safe test limit (codes "l") (codes "r") (g_rec r) (g_rec q) (g_rec t) refl refl no_left (l ∷ k ∷ []) (pair_of (codes "l") (codes "r") l k) refl refl (suits l k fit_l fit_k)
      (λ answer. IsSafe (RowFits t) (line_of answer)) (line_safe t plain) f h) (λ answer is. is)

  -- rows with times match or don't
  times_safe : r (codes "_time") ≡ g_is g_time → q (codes "_time") ≡ g_is g_time → (l k : Row) → RowFits r l → RowFits q k → IsSafe (λ yes. Unit {0}) (matched (same_times (codes "_time")) limit l k)
  times_safe has_l has_k l k fit_l fit_k =
      safe_then (λ answer. IsSafe (λ yes. Unit {0}) (truth_of answer)) (λ yes. Unit {0}) (same_times (codes "_time") (l ∷ k ∷ []) limit) truth_of
      (safe_then (λ t. Unit {0}) (λ answer. IsSafe (λ yes. Unit {0}) (truth_of answer)) (time_of (get l (codes "_time"))) (λ x. and_then (time_of (get k (codes "_time"))) (λ y. Gives (Cell (same_time x y)) 0))
      (timed (get l (codes "_time")) (subst (λ f. IsTrue (is_column_of f (get l (codes "_time")))) has_l (fit_l (codes "_time"))))
      (λ x _. safe_then (λ t. Unit {0}) (λ answer. IsSafe (λ yes. Unit {0}) (truth_of answer)) (time_of (get k (codes "_time"))) (λ y. Gives (Cell (same_time x y)) 0)
      (timed (get k (codes "_time")) (subst (λ f. IsTrue (is_column_of f (get k (codes "_time")))) has_k (fit_k (codes "_time")))) (λ y _. told x y)))
      (λ answer is. is)
    where
      timed : (o : Option Scalar) → IsTrue (is_column_of (g_is g_time) o) → IsSafe (λ t. Unit {0}) (time_of o)
      timed None h = tt
      timed (Some scalar.Null) h = tt
      timed (Some (scalar.Time t)) h = tt
      timed (Some _) h = absurd (false≢true h)

      told : (x y : Option ℤ) → IsSafe (λ yes. Unit {0}) (truth_of (Cell (same_time x y)))
      told (Some x) (Some y) = tt
      told None y = tt
      told (Some x) None = tt

module _ (test : Tests) (stored : Stored) where
  pairs_safe : (side : Side) (r q t : GroundRow) (args : Slots) (limit : ℕ) (ls rs : List Table) → ((l : Label) → IsTrue (is_plain (r l))) → ((l : Label) → IsTrue (is_plain (q l))) → ((l : Label) → IsTrue (is_plain (t l)))
      → keeps_at args (codes "on") (typed (of_rows r q g_bool)) ⊥ → keeps_at args (codes "as") (typed (of_rows r q (g_rec t))) ⊥ → TablesFit r ls → TablesFit q rs
      → IsSafe (TablesFit t) (of_pairs test stored side args limit ls rs)
  pairs_safe side r q t args limit ls rs plain_r plain_q plain_t on both fit_l fit_r =
      argument_safe (TablesFit t) (of_rows r q g_bool) args (codes "on") (λ on. argument (codes "as") args >>= (λ both. joined (row_meaning test on) (row_meaning test both) side ls rs limit)) on
      (λ f h. argument_safe (TablesFit t) (of_rows r q (g_rec t)) args (codes "as") (λ both. joined (row_meaning test f) (row_meaning test both) side ls rs limit) both
      (λ g k. joined_safe r q t (row_meaning test f) (row_meaning test g) side limit (nothing_fits r plain_r) (nothing_fits q plain_q) (matched_safe test limit r q f h)
      (made_safe test limit r q t plain_t g k) ls rs fit_l fit_r))

  pub inner_safe : OperatorIsSafe test stored s.JoinInner
  unfolding IsLine
  inner_safe place w L needs input r args limit tss line =
      let p = line.0 in
      let q = line.1 in
      let t = line.2 in
      let ps = (codes "right", g_stream q) ∷ (codes "on", of_rows p q g_bool) ∷ (codes "as", of_rows p q (g_rec t)) ∷ [] in
      by_line test stored s.JoinInner w (piped (codes "left") p [] ps [] (g_stream t)) _ _ _ refl
      (λ place args limit tss is have further. two_safe (TablesFit t) (put (codes "left") (g_stream p) (parameters ps)) (codes "left") (codes "right") p q (of_pairs test stored Inner args limit) tss refl refl have
      (λ ls rs fit_l fit_r. pairs_safe Inner p q t args limit ls rs is.0.2.1 (is.0.1 (codes "right")).1 is.0.3.1 (further (codes "on")) (further (codes "as")) fit_l fit_r)) place L needs input r args limit tss line.3

  pub left_safe : OperatorIsSafe test stored s.JoinLeft
  unfolding IsLine
  left_safe place w L needs input r args limit tss line =
      let p = line.0 in
      let q = line.1 in
      let t = line.2 in
      let ps = (codes "right", g_stream q) ∷ (codes "on", of_rows p q g_bool) ∷ (codes "as", of_rows p q (g_rec t)) ∷ [] in
      by_line test stored s.JoinLeft w (piped (codes "left") p [] ps [] (g_stream t)) _ _ _ refl
      (λ place args limit tss is have further. two_safe (TablesFit t) (put (codes "left") (g_stream p) (parameters ps)) (codes "left") (codes "right") p q (of_pairs test stored Left args limit) tss refl refl have
      (λ ls rs fit_l fit_r. pairs_safe Left p q t args limit ls rs is.0.2.1 (is.0.1 (codes "right")).1 is.0.3.1 (further (codes "on")) (further (codes "as")) fit_l fit_r)) place L needs input r args limit tss line.3

  pub right_safe : OperatorIsSafe test stored s.JoinRight
  unfolding IsLine
  right_safe place w L needs input r args limit tss line =
      let p = line.0 in
      let q = line.1 in
      let t = line.2 in
      let ps = (codes "right", g_stream q) ∷ (codes "on", of_rows p q g_bool) ∷ (codes "as", of_rows p q (g_rec t)) ∷ [] in
      by_line test stored s.JoinRight w (piped (codes "left") p [] ps [] (g_stream t)) _ _ _ refl
      (λ place args limit tss is have further. two_safe (TablesFit t) (put (codes "left") (g_stream p) (parameters ps)) (codes "left") (codes "right") p q (of_pairs test stored Right args limit) tss refl refl have
      (λ ls rs fit_l fit_r. pairs_safe Right p q t args limit ls rs is.0.2.1 (is.0.1 (codes "right")).1 is.0.3.1 (further (codes "on")) (further (codes "as")) fit_l fit_r)) place L needs input r args limit tss line.3

  pub full_safe : OperatorIsSafe test stored s.JoinFull
  unfolding IsLine
  full_safe place w L needs input r args limit tss line =
      let p = line.0 in
      let q = line.1 in
      let t = line.2 in
      let ps = (codes "right", g_stream q) ∷ (codes "on", of_rows p q g_bool) ∷ (codes "as", of_rows p q (g_rec t)) ∷ [] in
      by_line test stored s.JoinFull w (piped (codes "left") p [] ps [] (g_stream t)) _ _ _ refl
      (λ place args limit tss is have further. two_safe (TablesFit t) (put (codes "left") (g_stream p) (parameters ps)) (codes "left") (codes "right") p q (of_pairs test stored Full args limit) tss refl refl have
      (λ ls rs fit_l fit_r. pairs_safe Full p q t args limit ls rs is.0.2.1 (is.0.1 (codes "right")).1 is.0.3.1 (further (codes "on")) (further (codes "as")) fit_l fit_r)) place L needs input r args limit tss line.3

  pub time_safe : OperatorIsSafe test stored s.JoinTime
  unfolding IsLine
  time_safe place w L needs input r args limit tss line =
      let p = line.1.0 in
      let q = line.1.2 in
      let t = line.1.4 in
      let ps = (codes "right", g_stream q) ∷ (codes "as", of_rows p q (g_rec t)) ∷ [] in
      let method = one_among (text_at w (codes "method") (Some (codes "inner"))) (codes "inner" ∷ codes "left" ∷ codes "right" ∷ codes "full" ∷ []) line.0 in
      let side = named_side (same_text method.0 (codes "inner")) (same_text method.0 (codes "left")) (same_text method.0 (codes "right")) (same_text method.0 (codes "full")) method.2 in
      by_line test stored s.JoinTime w (piped (codes "left") p (codes "method" ∷ []) ps [] (g_stream t)) _ _ _ refl
      (λ place args limit tss is have further. two_safe (TablesFit t) (put (codes "left") (g_stream p) (parameters ps)) (codes "left") (codes "right") p q (of_times test stored w args limit) tss refl refl have
      (λ ls rs fit_l fit_r. word_safe (TablesFit t) (text_at w (codes "method") (Some (codes "inner"))) method.0
      (λ method. found (side_named method) >>= (λ side. argument (codes "as") args >>= (λ both. joined_by_time (row_meaning test both) side ls rs limit))) method.1
      (word_safe (TablesFit t) (side_named method.0) side.0 (λ side. argument (codes "as") args >>= (λ both. joined_by_time (row_meaning test both) side ls rs limit)) side.1
      (argument_safe (TablesFit t) (of_rows p q (g_rec t)) args (codes "as") (λ both. joined_by_time (row_meaning test both) side.0 ls rs limit) (further (codes "as"))
      (λ g k. joined_safe p q t (same_times (codes "_time")) (row_meaning test g) side.0 limit (nothing_fits p is.0.2.1) (nothing_fits q (is.0.1 (codes "right")).1)
      (times_safe test limit p q line.1.1 line.1.3) (made_safe test limit p q t is.0.3.1 g k) ls rs fit_l fit_r))))) place L needs input r args limit tss line.1.5
    where
      named_side : (a c d e : Bool) → (if a then true else (if c then true else (if d then true else (if e then true else false)))) ≡ true
          → (side : Side) × ((if a then Some Inner else (if c then Some Left else (if d then Some Right else (if e then Some Full else None)))) ≡ Some side)
      named_side true c d e h = (Inner, refl)
      named_side false true d e h = (Left, refl)
      named_side false false true e h = (Right, refl)
      named_side false false false true h = (Full, refl)
      named_side false false false false h = absurd (false≢true h)
