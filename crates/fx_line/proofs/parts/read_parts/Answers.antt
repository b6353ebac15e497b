use Rattle.std.proofs.Common.{◌≡◌, ℕ, List, Option, IfSome, IfNone, false, sym, ap, ◌∙◌, subst}
use Rattle.fx_line.specs.declared.pair.PairsRead.{PairsRead}
use Rattle.fx_line.specs.declared.pair.Side.TheVariants as side
use Rattle.fx_line.specs.declared.word.Word.TheVariants as word
use Rattle.fx_line.specs.Word.{is_word, back}
use Rattle.fx_line.specs.Line.{Pair, without_spaces}
use Rattle.fx_line.specs.Reading.{HasMore, More, Fields, ends_pair}
use Rattle.fx_line.proofs.Spelled.{measurement_end, more_of, no_name, no_tags, no_fields, no_time, read_spelled}
use Rattle.fx_line.proofs.parts.read_parts.Goals as goal

pub returns-then-not-is_word-clause-none : goal.returns-then-not-is_word-clause-none
returns-then-not-is_word-clause-none c =
    no_name c.args.body.now (ap (is_word word.Measurement) (sym c.cut.ensures.word) ∙ sym c.if-not-is_word.ensures)

pub read_more-requires : goal.read_more-requires
read_more-requires c = ap ends_pair c.cut.ensures.rest ∙ measurement_end c.args.body.now

pub returns-in_default-clause-none : goal.returns-in_default-clause-none
returns-in_default-clause-none c =
    let none : (ps : List Pair) (r : List ℕ) → More side.Tag c.cut.result.1.now ps r → ⊥ =
    subst (λ (o : Option PairsRead). IfNone o ((ps : List Pair) (r : List ℕ) → More side.Tag c.cut.result.1.now ps r → ⊥)) c.in_default.is c.in_ok-tags.ensures.none in
    no_tags c.args.body.now (subst (λ (b : List ℕ). (ps : List Pair) (r : List ℕ) → More side.Tag b ps r → ⊥) c.cut.ensures.rest none)

pub returns-in_default-2-clause-none : goal.returns-in_default-2-clause-none
returns-in_default-2-clause-none c =
    let body = c.args.body.now in
    let tags = c.in-Some.tags in
    let found : HasMore side.Tag c.cut.result.1.now c.new.result.items tags.pairs.items tags.rest.now =
    subst (λ (o : Option PairsRead). IfSome o (λ r. HasMore side.Tag c.cut.result.1.now c.new.result.items r.pairs.items r.rest.now)) c.in-Some.is c.in_ok-tags.ensures.found in
    let more : More side.Tag (back word.Measurement false body) tags.pairs.items tags.rest.now =
    subst (λ (b : List ℕ). More side.Tag b tags.pairs.items tags.rest.now) c.cut.ensures.rest (more_of side.Tag c.cut.result.1.now c.new.result.items tags.pairs.items tags.rest.now c.new.ensures.items found) in
    let none : (fs : List Pair) (r : List ℕ) → Fields c.without_spaces.result.now fs r → ⊥ =
    subst (λ (o : Option PairsRead). IfNone o ((fs : List Pair) (r : List ℕ) → Fields c.without_spaces.result.now fs r → ⊥)) c.in_default-2.is c.in_ok-fields.ensures.none in
    no_fields body tags.pairs.items tags.rest.now more (subst (λ (b : List ℕ). (fs : List Pair) (r : List ℕ) → Fields b fs r → ⊥) c.without_spaces.ensures none)

pub returns-in_default-read_time-clause-none : goal.returns-in_default-read_time-clause-none
returns-in_default-read_time-clause-none c =
    let body = c.args.body.now in
    let tags = c.in-Some.tags in
    let fields = c.in-Some-2.fields in
    let found : HasMore side.Tag c.cut.result.1.now c.new.result.items tags.pairs.items tags.rest.now =
    subst (λ (o : Option PairsRead). IfSome o (λ r. HasMore side.Tag c.cut.result.1.now c.new.result.items r.pairs.items r.rest.now)) c.in-Some.is c.in_ok-tags.ensures.found in
    let more : More side.Tag (back word.Measurement false body) tags.pairs.items tags.rest.now =
    subst (λ (b : List ℕ). More side.Tag b tags.pairs.items tags.rest.now) c.cut.ensures.rest (more_of side.Tag c.cut.result.1.now c.new.result.items tags.pairs.items tags.rest.now c.new.ensures.items found) in
    let are : Fields c.without_spaces.result.now fields.pairs.items fields.rest.now =
    subst (λ (o : Option PairsRead). IfSome o (λ r. Fields c.without_spaces.result.now r.pairs.items r.rest.now)) c.in-Some-2.is c.in_ok-fields.ensures.found in
    no_time body tags.pairs.items tags.rest.now fields.pairs.items fields.rest.now more
    (subst (λ (b : List ℕ). Fields b fields.pairs.items fields.rest.now) c.without_spaces.ensures are) (sym c.in_default-read_time.ensures)

pub returns-clause-found : goal.returns-clause-found
returns-clause-found c =
    let body = c.args.body.now in
    let tags = c.in-Some.tags in
    let fields = c.in-Some-2.fields in
    let found : HasMore side.Tag c.cut.result.1.now c.new.result.items tags.pairs.items tags.rest.now =
    subst (λ (o : Option PairsRead). IfSome o (λ r. HasMore side.Tag c.cut.result.1.now c.new.result.items r.pairs.items r.rest.now)) c.in-Some.is c.in_ok-tags.ensures.found in
    let more : More side.Tag (back word.Measurement false body) tags.pairs.items tags.rest.now =
    subst (λ (b : List ℕ). More side.Tag b tags.pairs.items tags.rest.now) c.cut.ensures.rest (more_of side.Tag c.cut.result.1.now c.new.result.items tags.pairs.items tags.rest.now c.new.ensures.items found) in
    let are : Fields c.without_spaces.result.now fields.pairs.items fields.rest.now =
    subst (λ (o : Option PairsRead). IfSome o (λ r. Fields c.without_spaces.result.now r.pairs.items r.rest.now)) c.in-Some-2.is c.in_ok-fields.ensures.found in
    read_spelled body _ (record {
      measurement = sym c.cut.ensures.word;
      is_name = sym c.if-not-is_word.ensures;
      tagged = tags.rest.now;
      tags = more;
      behind = fields.rest.now;
      fields = subst (λ (b : List ℕ). Fields b fields.pairs.items fields.rest.now) c.without_spaces.ensures are;
      time = sym c.in-Some-read_time.ensures;
    })
