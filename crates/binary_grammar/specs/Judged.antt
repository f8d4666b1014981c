-- Formats whose value is judged, by what was read and by how many bytes it took.
use Rattle.std.specs.Prelude.{◌≡◌, ℕ, ◌-◌, ◌⊎◌, List, ◌++◌, length, Result, Ok, Err, Bool, true, false}
use Rattle.binary_grammar.specs.declared.fault.Fault.{Fault}
use Rattle.binary_grammar.specs.declared.fault.Rule.{Rule}
use Rattle.binary_grammar.specs.Format.{Format, Whole, Then, Behind, fault_at, wrong, and_then, keeping}

-- the value that passed, or the rule that it breaks
abbrev pub passed : {X : Type 0} → Rule → Bool → X → Result X Rule
passed rule true x = Ok x
passed rule false x = Err rule

-- what was judged of a value that stands between these bytes and those behind it; a break lies where the value begins
abbrev pub judged_at : {B : Type 0} → Result B Rule → List ℕ → List ℕ → Result (B × List ℕ) Fault
judged_at (Ok y) bytes rest = Ok (y, rest)
judged_at (Err rule) bytes rest = wrong rule bytes

-- bytes of a form whose value is judged to be this one
pub record IsJudged {A B : Type 0} (F : List ℕ → A → Type 0) (judge : ℕ → A → Result B Rule) (bytes : List ℕ) (y : B) : Type 0 where
  pub value : A
  pub formed : F bytes value
  pub judged : judge (length bytes) value ≡ Ok y

-- the form stands at the front, and its value is judged to break a rule
pub record IsRefused {A B : Type 0} (F : List ℕ → A → Type 0) (judge : ℕ → A → Result B Rule) (bytes : List ℕ) (e : Fault) : Type 0 where
  pub value : A
  pub front : List ℕ
  pub back : List ℕ
  pub parts : bytes ≡ front ++ back
  pub first : F front value
  pub rule : Rule
  pub refused : judge (length front) value ≡ Err rule
  pub place : e ≡ fault_at rule bytes

abbrev pub weigh : {A B : Type 0} → (ℕ → A → Result B Rule) → Format A → Format B
weigh judge f = record {
  form = IsJudged f.form judge;
  breaks = λ bytes e. f.breaks bytes e ⊎ IsRefused f.form judge bytes e;
  read = λ bytes. and_then (f.read bytes) (λ x. judged_at (judge (length bytes - length x.1) x.0) bytes x.1);
}

-- one part, and then all of what is behind it
abbrev pub then_all : {A B : Type 0} → Format A → (A → Whole B) → Whole B
then_all f g = record {
  form = Then f.form (λ a. (g a).form);
  breaks = λ bytes e. f.breaks bytes e ⊎ Behind f.form (λ a back. (g a).breaks back e) bytes;
  read = λ bytes. and_then (f.read bytes) (λ a. (g a.0).read a.1);
}

-- all of some bytes, under another view
abbrev pub seen_as : {A B : Type 0} → (A → B) → Whole A → Whole B
seen_as make w = keeping w (λ x _. make x)
