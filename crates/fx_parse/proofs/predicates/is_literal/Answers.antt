use Rattle.std.proofs.Common.{◌≡◌, false, sym, ap, refl, ◌∙◌}
use Rattle.fx_scan.specs.declared.symbols.Symbol.{Symbol}
use Rattle.fx_scan.specs.declared.symbols.Symbol.TheVariants as symbol
use Rattle.fx_scan.specs.declared.words.Word.{Word}
use Rattle.fx_scan.specs.declared.words.Word.TheVariants as word
use Rattle.fx_parse.specs.Items.{among, one_of, sort, literals, a_word, a_symbol}
use Rattle.fx_parse.proofs.predicates.is_literal.Goals as goal

no_word : (x : Word) → among literals (a_word x) ≡ false
no_word word.And = refl
no_word x = refl

no_symbol : (x : Symbol) → among literals (a_symbol x) ≡ false
no_symbol symbol.Plus = refl
no_symbol x = refl

pub returns-in-Int : goal.returns-in-Int
unfolding one_of
returns-in-Int c = ap (λ l. among literals (sort l)) (sym c.in-Int.is)

pub returns-in-Span : goal.returns-in-Span
unfolding one_of
returns-in-Span c = ap (λ l. among literals (sort l)) (sym c.in-Span.is)

pub returns-in-Time : goal.returns-in-Time
unfolding one_of
returns-in-Time c = ap (λ l. among literals (sort l)) (sym c.in-Time.is)

pub returns-in-Plain : goal.returns-in-Plain
unfolding one_of
returns-in-Plain c = ap (λ l. among literals (sort l)) (sym c.in-Plain.is)

pub returns-in-Pattern : goal.returns-in-Pattern
unfolding one_of
returns-in-Pattern c = ap (λ l. among literals (sort l)) (sym c.in-Pattern.is)

pub returns-in-Name : goal.returns-in-Name
unfolding one_of
returns-in-Name c = ap (λ l. among literals (sort l)) (sym c.in-Name.is)

pub returns-in-Head : goal.returns-in-Head
unfolding one_of
returns-in-Head c = ap (λ l. among literals (sort l)) (sym c.in-Head.is)

pub returns-in-Mid : goal.returns-in-Mid
unfolding one_of
returns-in-Mid c = ap (λ l. among literals (sort l)) (sym c.in-Mid.is)

pub returns-in-Tail : goal.returns-in-Tail
unfolding one_of
returns-in-Tail c = ap (λ l. among literals (sort l)) (sym c.in-Tail.is)

pub returns-in-Word : goal.returns-in-Word
unfolding one_of
returns-in-Word c = sym (no_word c.in-Word.field-0) ∙ ap (λ l. among literals (sort l)) (sym c.in-Word.is)

pub returns-in-Symbol : goal.returns-in-Symbol
unfolding one_of
returns-in-Symbol c = sym (no_symbol c.in-Symbol.field-0) ∙ ap (λ l. among literals (sort l)) (sym c.in-Symbol.is)
