-- The words that a call gives at its label arguments.
use Rattle.std.specs.Prelude.{◌≡◌, ℕ, Bool, false, List, [], ◌∷◌, Option, None, Some, map, if◌then◌else◌}
use Rattle.std.specs.Borrow.{Bor}
use Rattle.fx_base.specs.Text.{same_text}
use Rattle.fx_types.specs.Term.{Label}
use Rattle.fx_types.specs.Ground.{listed}
use Rattle.fx_schemes.specs.declared.given.LabelWords as given

abbrev pub Given : Type 0
Given = List given.LabelWords

-- the first entry of the label
abbrev pub words_at : Given → Label → Option given.LabelWords
words_at [] x = None
words_at (g ∷ gs) x = if same_text x g.label then Some g else words_at gs x

-- the word of a list of one
abbrev pub only_word : List Label → Option Label
only_word (x ∷ []) = Some x
only_word _ = None

abbrev pub one_of : Option given.LabelWords → Option Label → Option Label
one_of None default = default
one_of (Some g) default = only_word g.words

abbrev pub all_of : Option given.LabelWords → Option (List Label) → Option (List Label)
all_of None default = default
all_of (Some g) default = Some g.words

-- the one word at the label, or the default where the call has no entry of it
unfoldable pub text_at : Given → Label → Option Label → Option Label
text_at gs x default = one_of (words_at gs x) default

-- all words at the label, or the default
unfoldable pub list_at : Given → Label → Option (List Label) → Option (List Label)
list_at gs x default = all_of (words_at gs x) default

-- the call gives just the word a at the label
abbrev pub IsWord : Given → Label → Label → Type 0
IsWord w x a = text_at w x None ≡ Some a

-- the same, or it leaves the label out and a is the default
abbrev pub IsWordOr : Given → Label → Label → Label → Type 0
IsWordOr w x default a = text_at w x (Some default) ≡ Some a

abbrev pub among : Option Label → List Label → Bool
among None ms = false
among (Some m) ms = listed m ms

-- the word at the label, or the default, is one of these
abbrev pub is_one_of : Given → Label → Label → List Label → Bool
is_one_of w x default ms = among (text_at w x (Some default)) ms

abbrev pub AreWords : Given → Label → List Label → Type 0
AreWords w x xs = list_at w x None ≡ Some xs

abbrev pub AreWordsOr : Given → Label → List Label → List Label → Type 0
AreWordsOr w x default xs = list_at w x (Some default) ≡ Some xs

-- texts that code lends
abbrev pub texts_of : List (Bor (List ℕ)) → List Label
texts_of xs = map (λ x. x.now) xs
