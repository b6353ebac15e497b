use Rattle.std.proofs.Common.{refl, sym, ap, ◌∙◌}
use Rattle.fx_types.specs.declared.term.Ty.TheVariants as ty
use Rattle.fx_types.specs.Ground.{g_array}
use Rattle.fx_types.specs.Instance.{ground}
use Rattle.fx_types.specs.Shape.{term, fun_term, row_term}
use Rattle.fx_types.specs.Term.{fun, rec, stream}
use Rattle.fx_types.proofs.ShapeLaws.{term_array, term_fun, term_rec, term_stream}
use Rattle.fx_unify.specs.Tag.{tag_of}
use Rattle.fx_unify.proofs.Cases.{is_a_compound}
use Rattle.fx_unify.proofs.HeadLaws.{replaced, ground_array, ground_fun, ground_rec, ground_stream}
use Rattle.fx_unify.proofs.store.Store.solve_compound.Goals as goal

pub solve_arrays-requires : goal.solve_arrays-requires
solve_arrays-requires c = sym c.requires.same ∙ ap tag_of (ap term c.in-Array.is ∙ term_array c.in-Array.element)

pub solve_functions-requires : goal.solve_functions-requires
solve_functions-requires c = sym c.requires.same ∙ ap tag_of (ap term c.in-Fun.is ∙ term_fun c.in-Fun.function)

pub solve_records-requires : goal.solve_records-requires
solve_records-requires c = sym c.requires.same ∙ ap tag_of (ap term c.in-Rec.is ∙ term_rec c.in-Rec.row)

pub solve_streams-requires : goal.solve_streams-requires
solve_streams-requires c = sym c.requires.same ∙ ap tag_of (ap term c.in-Stream.is ∙ term_stream c.in-Stream.row)

pub returns-in-Array : goal.returns-in-Array
returns-in-Array c =
    replaced c.solve_arrays.result c.args.self.now c.solve_arrays.new.self (λ s. ground s (term c.args.a)) (λ s. ground s (term c.args.b)) (λ s. g_array (ground s (term c.into_inner.result)))
    (λ s. ground s (term c.args.b)) (λ s. ground_array s c.args.a c.into_inner.result (c.in-Array.is ∙ ap ty.Array (sym c.into_inner.ensures))) (λ s. refl) c.solve_arrays.ensures

pub returns-in-Fun : goal.returns-in-Fun
returns-in-Fun c =
    replaced c.solve_functions.result c.args.self.now c.solve_functions.new.self (λ s. ground s (term c.args.a)) (λ s. ground s (term c.args.b))
    (λ s. ground s (fun (fun_term c.into_inner-in-Fun.result).required (fun_term c.into_inner-in-Fun.result).pipe (fun_term c.into_inner-in-Fun.result).result)) (λ s. ground s (term c.args.b))
    (λ s. ground_fun s c.args.a c.into_inner-in-Fun.result (c.in-Fun.is ∙ ap ty.Fun (sym c.into_inner-in-Fun.ensures))) (λ s. refl) c.solve_functions.ensures

pub returns-in-Rec : goal.returns-in-Rec
returns-in-Rec c =
    replaced c.solve_records.result c.args.self.now c.solve_records.new.self (λ s. ground s (term c.args.a)) (λ s. ground s (term c.args.b))
    (λ s. ground s (rec (row_term c.into_inner-in-Rec.result).fields (row_term c.into_inner-in-Rec.result).rest)) (λ s. ground s (term c.args.b))
    (λ s. ground_rec s c.args.a c.into_inner-in-Rec.result (c.in-Rec.is ∙ ap ty.Rec (sym c.into_inner-in-Rec.ensures))) (λ s. refl) c.solve_records.ensures

pub returns-in-Stream : goal.returns-in-Stream
returns-in-Stream c =
    replaced c.solve_streams.result c.args.self.now c.solve_streams.new.self (λ s. ground s (term c.args.a)) (λ s. ground s (term c.args.b))
    (λ s. ground s (stream (row_term c.into_inner-in-Stream.result).fields (row_term c.into_inner-in-Stream.result).rest)) (λ s. ground s (term c.args.b))
    (λ s. ground_stream s c.args.a c.into_inner-in-Stream.result (c.in-Stream.is ∙ ap ty.Stream (sym c.into_inner-in-Stream.ensures))) (λ s. refl) c.solve_streams.ensures

pub returns-in_default : goal.returns-in_default
returns-in_default c =
    λ s holds e within. is_a_compound c.args.a c.requires.least c.requires.most c.in_default.not-Array c.in_default.not-Fun c.in_default.not-Rec c.in_default.not-Stream
