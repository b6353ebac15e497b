-- The words that the arguments of a call say, read from their values.
use Rattle.std.specs.Prelude.{List, [], ◌∷◌, Option, None, Some, codes}
use Rattle.fx_value.specs.declared.scalar.Scalar.TheVariants as scalar
use Rattle.fx_types.specs.Term.{Label}
use Rattle.fx_schemes.specs.declared.form.Form.{Form}
use Rattle.fx_schemes.specs.declared.form.Form.TheVariants as form
use Rattle.fx_schemes.specs.declared.given.LabelWords.{LabelWords}
use Rattle.fx_schemes.specs.declared.list.Builtin.{Builtin}
use Rattle.fx_schemes.specs.Given.{Given}
use Rattle.fx_meaning.specs.declared.native.Native.{Native}
use Rattle.fx_meaning.specs.declared.native.Native.TheVariants as n
use Rattle.fx_meaning.specs.declared.stream.StreamFn.TheVariants as s
use Rattle.fx_meaning.specs.Value.{Val, cell, array, rec, native, Vals, no_vals, more_vals, Slots, no_slots, more_slots}
use Rattle.fx_schemes.specs.Written.{form_at, with_first, one_word, many_words, new_words}

abbrev pub text_in : Val → Option Label
text_in (cell (scalar.Text text)) = Some text
text_in _ = None

-- texts alone

abbrev pub item_texts : Vals → Option (List Label)
item_texts no_vals = Some []
item_texts (more_vals v vs) = with_first (text_in v) (item_texts vs)

abbrev pub field_texts : Slots → Option (List Label)
field_texts no_slots = Some []
field_texts (more_slots x v fields) = with_first (text_in v) (field_texts fields)

abbrev pub labels_of : Slots → List Label
labels_of no_slots = []
labels_of (more_slots x v fields) = x ∷ labels_of fields

-- the name of a function that windows take
abbrev pub fold_name : Native → Option Label
fold_name (n.Stream s.Count) = Some (codes "count")
fold_name (n.Stream s.First) = Some (codes "first")
fold_name (n.Stream s.Last) = Some (codes "last")
fold_name (n.Stream s.Max) = Some (codes "max")
fold_name (n.Stream s.Min) = Some (codes "min")
fold_name (n.Stream s.Spread) = Some (codes "spread")
fold_name (n.Stream s.Sum) = Some (codes "sum")
fold_name _ = None

-- what a value says at a label, None where it doesn't have the form
abbrev pub value_says : Form → Label → Val → Option LabelWords
value_says form.Text x v = one_word x (text_in v)
value_says form.Listed x v = one_word x (text_in v)
value_says form.Texts x (array vs) = many_words x (item_texts vs)
value_says form.Renames x (rec fields) = new_words x (labels_of fields) (field_texts fields)
value_says form.Name x (native g) = one_word x (fold_name g)
value_says _ x v = None

abbrev pub and_says : Option Form → Label → Val → Option Given → Option Given
and_says None x v rest = rest
and_says (Some f) x v rest = with_first (value_says f x v) rest

-- what the label arguments of a call say, in the call's order, None where one doesn't have its form
abbrev pub said_in : Option Builtin → Slots → Option Given
said_in b no_slots = Some []
said_in b (more_slots x v args) = and_says (form_at b x) x v (said_in b args)
