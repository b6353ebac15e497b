-- The words of label arguments, put together: one argument in its form, and one argument after another.
use Rattle.std.specs.Prelude.{List, [], ◌∷◌, Option, None, Some}
use Rattle.fx_types.specs.Term.{Label}
use Rattle.fx_schemes.specs.declared.form.Form.{Form}
use Rattle.fx_schemes.specs.declared.given.LabelWords.{LabelWords}
use Rattle.fx_schemes.specs.declared.list.Builtin.{Builtin}
use Rattle.fx_schemes.specs.Signature.{form_of}

abbrev pub with_first : {A : Type 0} → Option A → Option (List A) → Option (List A)
with_first (Some x) (Some xs) = Some (x ∷ xs)
with_first _ _ = None

abbrev pub words_at_label : Label → List Label → List Label → LabelWords
words_at_label x ws ns = record { label = x; words = ws; news = ns }

abbrev pub one_word : Label → Option Label → Option LabelWords
one_word x None = None
one_word x (Some s) = Some (words_at_label x (s ∷ []) [])

abbrev pub many_words : Label → Option (List Label) → Option LabelWords
many_words x None = None
many_words x (Some ws) = Some (words_at_label x ws [])

abbrev pub new_words : Label → List Label → Option (List Label) → Option LabelWords
new_words x olds None = None
new_words x olds (Some news) = Some (words_at_label x olds news)

-- the form of the label argument x; only built-ins have label arguments
abbrev pub form_at : Option Builtin → Label → Option Form
form_at None x = None
form_at (Some b) x = form_of b x
