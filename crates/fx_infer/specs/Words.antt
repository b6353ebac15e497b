-- The words of a call, read from the form of its label arguments.
use Rattle.std.specs.Prelude.{List, [], ◌∷◌, Option, None, Some}
use Rattle.fx_types.specs.Term.{Label}
use Rattle.fx_schemes.specs.declared.form.Form.{Form}
use Rattle.fx_schemes.specs.declared.form.Form.TheVariants as form
use Rattle.fx_schemes.specs.declared.given.LabelWords.{LabelWords}
use Rattle.fx_schemes.specs.declared.list.Builtin.{Builtin}
use Rattle.fx_schemes.specs.Given.{Given}
use Rattle.fx_schemes.specs.Written.{form_at, many_words, new_words, one_word, with_first, words_at_label}
use Rattle.fx_ast.specs.Tree.{Tree, tree, text, name, array, rec, Trees, no_trees, more_trees, no_parts, piece, Props, no_props, more_props}
use Rattle.fx_infer.specs.Ask.{builtin_is, Scope}
use Rattle.fx_infer.specs.Parameters.{prop_names}

-- a text without interpolation
abbrev pub plain_text : Tree → Option Label
plain_text (tree place (text (piece s no_parts))) = Some s
plain_text _ = None

-- plain texts alone

abbrev pub item_texts : Trees → Option (List Label)
item_texts no_trees = Some []
item_texts (more_trees e es) = with_first (plain_text e) (item_texts es)

abbrev pub value_texts : Props → Option (List Label)
value_texts no_props = Some []
value_texts (more_props x e ps) = with_first (plain_text e) (value_texts ps)

-- what an argument says at a label, None where it isn't written in the form
abbrev pub said : Form → Label → Tree → Option LabelWords
said form.Text x e = one_word x (plain_text e)
said form.Listed x e = one_word x (plain_text e)
said form.Texts x (tree place (array es)) = many_words x (item_texts es)
said form.Renames x (tree place (rec None ps)) = new_words x (prop_names ps) (value_texts ps)
said form.Name x (tree place (name y)) = Some (words_at_label x (y ∷ []) [])
said _ x e = None

abbrev pub and_words : Option Form → Label → Tree → Option Given → Option Given
and_words None x e rest = rest
and_words (Some f) x e rest = with_first (said f x e) rest

-- what the label arguments of a call say, in the call's order, None where one isn't written in its form
abbrev pub words_of_call : Option Builtin → Props → Option Given
words_of_call b no_props = Some []
words_of_call b (more_props x e ps) = and_words (form_at b x) x e (words_of_call b ps)

-- where a function is given by its name, the name stands for a built-in, and isn't shadowed
abbrev pub IsInForce : Form → Tree → Scope → Type 0
IsInForce form.Name (tree place (name y)) S = (b : Builtin) × S y (builtin_is b)
IsInForce _ e S = Unit {0}
