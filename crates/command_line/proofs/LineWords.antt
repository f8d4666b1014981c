-- What the words of a line tell of its inputs.
use Rattle.std.proofs.Common.{◌≡◌, ◌≢◌, ◌∙◌, ◌<◌, ◌==◌, ℕ, zero, suc, Bool, true, false, not, List, [], ◌∷◌, ◌++◌, map, length, drop, Some, refl, sym, ap, arith, eqb, eq-eqb, inl, inr, true≢false, subst, ◌&&◌, codes, string_bytes, length-append, get_or, option_map, Bor}
use Rattle.std.specs.Prelude.{slice_get, slice_index, filter}
use Rattle.std.specs.List.{list_all}
use Rattle.std.proofs.Math.Seq.{get_or-append_seam}
use Rattle.std.proofs.lemmas.Bool.{cases_Bool}
use Rattle.std.proofs.lemmas.Option.{same_Some, slice_get-map, slice_get-get_or}
use Rattle.clap.specs.Values.{kind_of}
use Rattle.clap.specs.Kinds.{Kinds, HasKind}
use Rattle.clap.specs.declared.error.Error.{Error}
use Rattle.clap.specs.declared.error.kind.ErrorKind.TheVariants.{OutOfMemory}
use Rattle.clap.specs.Words.{Row}
use Rattle.command_line.specs.declared.line.Action.{Action}
use Rattle.command_line.specs.declared.line.Action.TheVariants.{Build, Links, Audit}
use Rattle.command_line.specs.declared.line.Input.{Input}
use Rattle.command_line.specs.declared.line.Input.TheVariants as inputs
use Rattle.command_line.specs.declared.line.Line.{Line}
use Rattle.command_line.specs.declared.line.LineFault.{LineFault}
use Rattle.command_line.specs.declared.line.LineFault.TheVariants as faults
use Rattle.command_line.specs.Line.{HasNoEquals, IsInput, AreInputs, HasFields, Fits, IsUsageCause, action_named, components_of, input_word, is_text, is_component}

-- a kind that is among none, and isn't want of memory
pub no_kind : (kinds : Kinds) (e : Error) → HasKind kinds e → (kind_of e ≡ OutOfMemory → ⊥) → kinds ≡ [] → ⊥
no_kind [] e (inl memory) other none = other memory
no_kind [] e (inr among) other none = among
no_kind (k ∷ kinds) e h other none = cc

-- ---- the first `=`

pub has_equals : (a b t : List ℕ) → a ++ 61 ∷ b ≡ t → HasNoEquals t → ⊥
has_equals a b t e none =
    let within : length a < length (a ++ 61 ∷ b) = omega (arith, length-append a (61 ∷ b)) in
    none (length a) (rw (← e) within) (rw (← e) (get_or-append_seam a 61 b 0))

and_right : (a b : Bool) → (a && b) ≡ true → b ≡ true
and_right false b h = absurd (true≢false (sym h))
and_right true b h = h

no_equals : (t : List ℕ) → list_all (λ c. not (c == 61)) t ≡ true → HasNoEquals t
no_equals [] h i lt e = absurd (omega arith)
no_equals (c ∷ t) h zero lt e = true≢false (sym (subst (λ x. (not (x == 61) && list_all (λ d. not (d == 61)) t) ≡ true) e h))
no_equals (c ∷ t) h (suc i) lt e = no_equals t (and_right _ _ h) i (omega arith) e

-- two texts that are one have one part before the first `=`
same_cut : (a b x y : List ℕ) → HasNoEquals a → HasNoEquals b → a ++ 61 ∷ x ≡ b ++ 61 ∷ y → a ≡ b
same_cut [] [] x y p q e = refl
same_cut [] (d ∷ b) x y p q e = let first : 61 ≡ d = ap (λ l. slice_index l 0) e in absurd (q 0 (omega arith) (sym first))
same_cut (c ∷ a) [] x y p q e = let first : c ≡ 61 = ap (λ l. slice_index l 0) e in absurd (p 0 (omega arith) first)
same_cut (c ∷ a) (d ∷ b) x y p q e =
    let first : c ≡ d = ap (λ l. slice_index l 0) e in
    let rest : a ≡ b = same_cut a b x y (λ i lt. p (suc i) (omega arith)) (λ i lt. q (suc i) (omega arith)) (ap (drop 1) e) in
    cc

-- ---- words that are no input

unlike : (a b : ℕ) → eqb a b ≡ false → a ≡ b → ⊥
unlike a b other e = true≢false (sym (eq-eqb a b e) ∙ other)

pub no_main : (rest : List ℕ) → HasNoEquals rest → (i : Input) → IsInput (codes "main=" ++ rest) i → ⊥
no_main rest none (inputs.Text path) h = unlike 116 109 refl (ap (λ l. slice_index l 0) h.0)
no_main rest none (inputs.Dep path) h = unlike 100 109 refl (ap (λ l. slice_index l 0) h.0)
no_main rest none (inputs.Main world path) h = has_equals (string_bytes world) (string_bytes path) rest (ap (drop 5) h.0) none
no_main rest none (inputs.Component path) h = unlike 99 109 refl (ap (λ l. slice_index l 0) h.0)

pub no_input : (word : List ℕ) → HasNoEquals word → (i : Input) → IsInput word i → ⊥
no_input word none (inputs.Text path) h = has_equals (codes "text") (string_bytes path) word h.0 none
no_input word none (inputs.Dep path) h = has_equals (codes "dep") (string_bytes path) word h.0 none
no_input word none (inputs.Main world path) h = has_equals (codes "main") (string_bytes world ++ 61 ∷ string_bytes path) word h.0 none
no_input word none (inputs.Component path) h = has_equals (codes "component") (string_bytes path) word h.0 none

pub no_kind_of_input : (word kind rest : List ℕ) → word ≡ kind ++ 61 ∷ rest → HasNoEquals kind → kind ≢ codes "text" → kind ≢ codes "dep" → kind ≢ codes "main" → kind ≢ codes "component"
    → (i : Input) → IsInput word i → ⊥
no_kind_of_input word kind rest w none text dep main component (inputs.Text path) h =
    text (sym (same_cut (codes "text") kind (string_bytes path) rest (no_equals (codes "text") refl) none (h.0 ∙ w)))
no_kind_of_input word kind rest w none text dep main component (inputs.Dep path) h =
    dep (sym (same_cut (codes "dep") kind (string_bytes path) rest (no_equals (codes "dep") refl) none (h.0 ∙ w)))
no_kind_of_input word kind rest w none text dep main component (inputs.Main world path) h =
    main (sym (same_cut (codes "main") kind (string_bytes world ++ 61 ∷ string_bytes path) rest (no_equals (codes "main") refl) none (h.0 ∙ w)))
no_kind_of_input word kind rest w none text dep main component (inputs.Component path) h =
    component (sym (same_cut (codes "component") kind (string_bytes path) rest (no_equals (codes "component") refl) none (h.0 ∙ w)))

-- ---- lists of inputs

pub no_inputs : (words : List (List ℕ)) (k : ℕ) (word : List ℕ) → slice_get words k ≡ Some word → ((i : Input) → IsInput word i → ⊥) → (is : List Input) → AreInputs words is → ⊥
no_inputs [] k word e none is h = cc
no_inputs (w ∷ words) k word e none [] h = cc
no_inputs (w ∷ words) zero word e none (i ∷ is) h = none i (same_Some (input_word i) word (ap (λ l. slice_get l 0) h.0 ∙ e), h.1.0)
no_inputs (w ∷ words) (suc k) word e none (i ∷ is) h = no_inputs words k word e none is (ap (drop 1) h.0, h.1.1)

-- ---- what a line's inputs are by their words

same_count : (p : Input → Bool) (q : List ℕ → Bool) → ((i : Input) → p i ≡ q (input_word i)) → (is : List Input) → length (filter p is) ≡ length (filter q (map input_word is))
same_count p q same [] = refl
same_count p q same (i ∷ is) =
    let rest : length (filter p is) ≡ length (filter q (map input_word is)) = same_count p q same is in
    elim (cases_Bool (q (input_word i))) [
      | inl t ↦ rw (same i ∙ t, t) (ap suc rest)
      | inr t ↦ rw (same i ∙ t, t) rest
    ]

same_counts : (p : Input → Bool) (q : List ℕ → Bool) → ((i : Input) → p i ≡ q (input_word i)) → (is js : List Input) → map input_word is ≡ map input_word js
    → length (filter p is) ≡ length (filter p js)
same_counts p q same is js e = same_count p q same is ∙ ap (λ ws. length (filter q ws)) e ∙ sym (same_count p q same js)

begins : ℕ → List ℕ → Bool
begins n w = eqb (slice_index w 0) n

text_word : (i : Input) → is_text i ≡ begins 116 (input_word i)
unfolding begins
text_word (inputs.Text path) = refl
text_word (inputs.Dep path) = refl
text_word (inputs.Main world path) = refl
text_word (inputs.Component path) = refl

component_word : (i : Input) → is_component i ≡ begins 99 (input_word i)
unfolding begins
component_word (inputs.Text path) = refl
component_word (inputs.Dep path) = refl
component_word (inputs.Main world path) = refl
component_word (inputs.Component path) = refl

same_action : (a b : Action) → action_named a ≡ action_named b → components_of a ≡ components_of b
same_action Build Build e = refl
same_action Build Links e = refl
same_action Build Audit e = absurd (unlike 98 97 refl (ap (λ l. slice_index l 0) e))
same_action Links Build e = refl
same_action Links Links e = refl
same_action Links Audit e = absurd (unlike 108 97 refl (ap (λ l. slice_index l 0) e))
same_action Audit Build e = absurd (unlike 97 98 refl (ap (λ l. slice_index l 0) e))
same_action Audit Links e = absurd (unlike 97 108 refl (ap (λ l. slice_index l 0) e))
same_action Audit Audit e = refl

-- lines with the same fields fit both or neither
pub same_fit : (rows : List Row) (l m : Line) → HasFields rows l → HasFields rows m → Fits l → Fits m
same_fit rows l m f g fit =
    let words = same_Some f.inputs.0 g.inputs.0 (sym f.inputs.1 ∙ g.inputs.1) in
    let both : map input_word l.inputs.items ≡ map input_word m.inputs.items = f.inputs.2.0 ∙ words ∙ sym g.inputs.2.0 in
    let texts = same_counts is_text (begins 116) text_word l.inputs.items m.inputs.items both in
    let components = same_counts is_component (begins 99) component_word l.inputs.items m.inputs.items both in
    let wanted = same_action l.action m.action (same_Some _ _ (sym f.action ∙ g.action)) in
    (subst (λ n. 0 < n) texts fit.0, sym components ∙ fit.1 ∙ wanted)

pub no_inputs_cause : (words : List (Bor (List ℕ))) (k : ℕ) (d : Bor (List ℕ)) (f : LineFault) → k < length words → IsUsageCause (IsInput (get_or words k d).now) f
    → IsUsageCause (AreInputs (map (λ w. w.now) words)) f
no_inputs_cause words k d (faults.Clap text) lt h = h
no_inputs_cause words k d faults.Usage lt h =
    no_inputs (map (λ w. w.now) words) k (get_or words k d).now (slice_get-map (λ w. w.now) words k ∙ ap (option_map (λ w. w.now)) (slice_get-get_or words k d lt)) h
no_inputs_cause words k d faults.OutOfMemory lt h = tt
