-- `reduce` of streams that fit is safe.
use Rattle.std.proofs.Common.{◌≡◌, refl, ◌∙◌, false, List, [], ◌∷◌, ℕ}
use Rattle.std.specs.Prelude.{codes, IsTrue}
use Rattle.std.specs.List.{AllByRecursion}
use Rattle.fx_value.specs.Ends.{Gives, and_then}
use Rattle.fx_value.specs.Works.{walk}
use Rattle.fx_types.proofs.Choices.{passed}
use Rattle.fx_types.specs.Ground.{Ground, GroundRow, g_fun, g_rec, g_stream, g_absent, g_is, is_plain, listed}
use Rattle.fx_types.specs.Term.{Label}
use Rattle.fx_base.specs.Text.{same_text}
use Rattle.fx_data.specs.Regrouped.{regrouped}
use Rattle.fx_data.specs.declared.table.Table.{Table}
use Rattle.fx_agg.proofs.Reduced.{all_pinned_rises}
use Rattle.fx_agg.specs.Reduce.{folded, reduced, reduced_rows, reduced_table, reduced_tables, reduced_to}
use Rattle.fx_group.specs.Answer.{Meaning, line_of}
use Rattle.fx_schemes.specs.Builtins.{IsLine}
use Rattle.fx_schemes.specs.Line.{from_tables, parameters, put}
use Rattle.fx_schemes.specs.Signature.{required_of}
use Rattle.fx_schemes.specs.declared.list.Builtin.{Builtin}
use Rattle.fx_schemes.specs.declared.list.Builtin.TheVariants as b
use Rattle.fx_meaning.specs.declared.stream.StreamFn.TheVariants as s
use Rattle.fx_meaning.specs.Ends.{◌>>=◌}
use Rattle.fx_meaning.specs.Forms.{argument}
use Rattle.fx_meaning.specs.Meaning.{Tests}
use Rattle.fx_meaning.specs.Rows.{Row, pair_of, row_meaning}
use Rattle.fx_meaning.specs.Value.{Val}
use Rattle.fx_build.specs.Fit.{fits}
use Rattle.fx_plan.specs.Operators.{of_folded_rows, row_in}
use Rattle.fx_build.specs.Rows.{RowFits, TableFits, TablesFit}
use Rattle.fx_build.specs.Safe.{IsSafe}
use Rattle.fx_plan.specs.Sources.{Stored}
use Rattle.fx_build.proofs.OperatorCalls.{OperatorIsSafe, argument_safe, by_line, one_safe, row_in_safe}
use Rattle.fx_build.proofs.PairCalls.{pair_meaning_safe, pair_suits}
use Rattle.fx_build.proofs.RowCalls.{line_safe}
use Rattle.fx_build.proofs.SafeLaws.{safe_cut, safe_then}
use Rattle.fx_build.proofs.TableLaws.{KeyedFits, flat_each_safe, regrouped_all}

-- ---- over any rows

module _ (p q : GroundRow) (means : Meaning) (limit : ℕ) (folds : (out row : Row) → RowFits q out → RowFits p row → IsSafe (RowFits q) (folded means limit out row)) where
  walk_safe : (rows : List Row) (out : Row) → RowFits q out → AllByRecursion (RowFits p) rows → IsSafe (RowFits q) (walk (folded means limit) out rows)
  walk_safe [] out h all = h
  walk_safe (row ∷ rows) out h all =
      safe_then (RowFits q) (RowFits q) (folded means limit out row) (λ next. walk (folded means limit) next rows) (folds out row h all.0) (λ next is. walk_safe rows next is all.1)

  pub reduced_safe : (identity : Row) (tables : List Table) → RowFits q identity → TablesFit p tables → IsSafe (TablesFit q) (reduced means identity tables limit)
  unfolding reduced
  reduced_safe identity tables h all =
      safe_cut (TablesFit q) limit (and_then (reduced_tables means identity tables limit) (λ rows. Gives (regrouped rows) 0))
      (safe_then (AllByRecursion (KeyedFits q)) (TablesFit q) (reduced_tables means identity tables limit) (λ rows. Gives (regrouped rows) 0)
      (flat_each_safe (TableFits p) (KeyedFits q) (reduced_table means identity limit) tables all
      (λ t fit. safe_then (RowFits q) (AllByRecursion (KeyedFits q)) (reduced_rows means identity t.rows limit) (λ row. Gives (reduced_to t.key row ∷ []) 0) (walk_safe t.rows identity h fit.1)
      (λ row is. ((all_pinned_rises t.key fit.0.0, is), tt))))
      (λ rows made. regrouped_all q rows made))

-- ---- the function of a row and an accumulator

no_row : (x : Builtin) → listed (codes "r") (required_of x) ≡ false
no_row b.From = refl
no_row _ = refl

abbrev folder : GroundRow → GroundRow → Ground
folder r a = g_fun (parameters ((codes "r", g_rec r) ∷ (codes "accumulator", g_rec a) ∷ [])) g_absent (g_rec a)

folded_safe : (test : Tests) (limit : ℕ) (r a : GroundRow) (plain : (l : Label) → IsTrue (is_plain (a l))) (f : Val) → fits f (folder r a) → (out row : Row) → RowFits a out → RowFits r row
    → IsSafe (RowFits a) (folded (row_meaning test f) limit out row)
folded_safe test limit r a plain f h out row fit_out fit_row =
    safe_then (λ answer. IsSafe (RowFits a) (line_of answer)) (RowFits a) (row_meaning test f (out ∷ row ∷ []) limit) line_of
    (pair_meaning_safe test limit (codes "r") (codes "accumulator") (g_rec r) (g_rec a) (g_rec a) refl refl no_row (out ∷ row ∷ []) (pair_of (codes "accumulator") (codes "r") out row) refl refl
    (pair_suits (codes "accumulator") (codes "r") a r out row (parameters ((codes "r", g_rec r) ∷ (codes "accumulator", g_rec a) ∷ [])) refl fit_out fit_row refl refl
    (λ l e k. passed (same_text l (codes "r")) (g_is (g_rec r)) (parameters ((codes "accumulator", g_rec a) ∷ []) l) k ∙ passed (same_text l (codes "accumulator")) (g_is (g_rec a)) g_absent e))
    (λ answer. IsSafe (RowFits a) (line_of answer)) (line_safe a plain) f h) (λ answer is. is)

pub reduce_safe : (test : Tests) (stored : Stored) → OperatorIsSafe test stored s.Reduce
unfolding IsLine
reduce_safe test stored place w L needs input r args limit tss line =
    let q = line.0 in
    let a = line.1 in
    by_line test stored s.Reduce w (from_tables q [] ((codes "identity", g_rec a) ∷ (codes "fn", folder q a) ∷ []) [] (g_stream a)) _ _ _ refl
    (λ place args limit tss is have further. one_safe (TablesFit a) (put (codes "tables") (g_stream q) (parameters ((codes "identity", g_rec a) ∷ (codes "fn", folder q a) ∷ []))) (codes "tables") q (λ ts. of_folded_rows test stored args ts limit) tss refl have
    (λ ts fit. argument_safe (TablesFit a) (g_rec a) args (codes "identity") (λ v. row_in v >>= (λ identity. argument (codes "fn") args >>= (λ f. reduced (row_meaning test f) identity ts limit))) (further (codes "identity"))
    (λ v k. safe_then (RowFits a) (TablesFit a) (row_in v) (λ identity. argument (codes "fn") args >>= (λ f. reduced (row_meaning test f) identity ts limit)) (row_in_safe test stored a is.0.3.1 v k)
    (λ identity first. argument_safe (TablesFit a) (folder q a) args (codes "fn") (λ f. reduced (row_meaning test f) identity ts limit) (further (codes "fn"))
    (λ f h. reduced_safe q a (row_meaning test f) limit (λ out row. folded_safe test limit q a is.0.3.1 f h out row) identity ts first fit))))) place L needs input r args limit tss line.2
