use Rattle.std.proofs.Common.{◌≡◌, ◌<◌, refl, sym, ap, ◌∙◌, length, arith}
use Rattle.fx_types.specs.Instance.{ground_field, ground_tail}
use Rattle.fx_types.specs.Shape.{rest_term, field_term}
use Rattle.fx_unify.specs.Part.{value}
use Rattle.fx_unify.proofs.RowLaws.{if_ok, value_of, first_field, other_fields, off_fields}
use Rattle.fx_unify.proofs.pick.Entries.take.Goals as goal
use Rattle.fx_unify.proofs.LabelLaws.{first_below}
use Rattle.fx_unify.proofs.PlaceLaws.{same_names}

pub index_mut-requires : goal.index_mut-requires
index_mut-requires c =
    let lt : c.in-Some.at < length c.args.self.now.fields.items = first_below (λ e. e.label) c.args.label.now c.args.self.now.fields.items c.in-Some.at c.in-Some.ensures in
    let long : c.args.self.now.fields.len ≡ length c.args.self.now.fields.items = c.args.self.now.fields.ok.0 in
    omega arith

pub returns-in-Some-clause-field : goal.returns-in-Some-clause-field
returns-in-Some-clause-field c =
    λ s. ap (value s) c.from_term.ensures ∙ value_of s (field_term c.replace.result) ∙ ap (λ f. ground_field s (field_term f)) c.replace.ensures.value
    ∙ first_field s c.args.self.now.fields.items c.in-Some.at c.index_mut.result.now (ground_tail s (rest_term c.args.self.now.rest)) c.args.label.now c.index_mut.ensures.value
    c.in-Some.ensures

pub returns-in-Some-clause-others : goal.returns-in-Some-clause-others
returns-in-Some-clause-others c =
    λ s l apart. other_fields s c.args.self.now.fields.items c.in-Some.at c.index_mut.result.now (record { label = c.index_mut.result.now.label; field = c.replace.new.dest })
    (ground_tail s (rest_term c.args.self.now.rest)) c.args.label.now l c.index_mut.ensures.value refl
    c.in-Some.ensures apart

pub returns-in-None-clause-field : goal.returns-in-None-clause-field
returns-in-None-clause-field c =
    if_ok c.pick_rest.result
    (λ f e s. e s ∙ sym (off_fields s c.args.self.now.fields.items (ground_tail s (rest_term c.args.self.now.rest)) c.args.label.now
    c.in-None.ensures))
    c.pick_rest.ensures

pub returns-in-Some-clause-hashed : goal.returns-in-Some-clause-hashed
returns-in-Some-clause-hashed c =
    λ h. c.requires h
    ∙ sym (same_names c.args.self.now.fields.items c.in-Some.at c.index_mut.result.now (record { label = c.index_mut.result.now.label; field = c.replace.new.dest }) c.index_mut.ensures.value refl)
