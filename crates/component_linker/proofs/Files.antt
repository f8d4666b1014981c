-- Files by their paths, the first file at fault, and fronts of what is written.
use Rattle.std.proofs.Common.{◌≡◌, ◌≢◌, ◌∙◌, ◌<◌, ◌≤◌, ◌+◌, ℕ, zero, suc, true, false, List, [], ◌∷◌, ◌++◌, length, take, drop, get_or, Option, Some, None, Result, Ok, Err, IfErr, Bor, refl, sym, add-one, ap, subst, arith, inl, inr, string_bytes, Global, String}
use Rattle.std.specs.Prelude.{bytes_eq, filter}
use Rattle.std.specs.List.{flat_map}
use Rattle.std.specs.Option.{option_or}
use Rattle.std.specs.Str.{IsUtf8, is_utf8}
use Rattle.std.specs.Io.KnownBytes.{Appends}
use Rattle.std.proofs.KnownBytes.{Appends-trans}
use Rattle.std.proofs.Math.Seq.{drop-cons, take-append-add, take-length}
use Rattle.std.proofs.lemmas.Bool.{cases_Bool}
use Rattle.std.proofs.lemmas.List.{take-append-le, take-append-drop, take_all}
use Rattle.std.proofs.lemmas.Grind.{flat_map-append}
use Rattle.std.specs.Result.{is_err}
use Rattle.std.proofs.lemmas.Str.{IsUtf8-from_is_utf8, is_utf8-from_IsUtf8}
use Rattle.command_line.specs.declared.line.Input.{Input}
use Rattle.command_line.specs.declared.line.Input.TheVariants as inputs
use Rattle.component_builder.specs.declared.output.EmitFault.{EmitFault}
use Rattle.component_linker.specs.declared.program.Stop.{Stop}
use Rattle.component_linker.specs.declared.program.Stop.TheVariants as stops
use Rattle.component_linker.specs.Program.{Files, file_at, missing_path, textless_path, input_fault, file_fault}
use Rattle.component_linker.specs.Stops.{AppendsFront, IsInputStop, IsFileStop, IsHandStop, IsTextsStop, IsComponentStop}
use Rattle.component_session.specs.Coming.{ResolveErrorKind}
use Rattle.component_session.specs.Pushes.{Resolved}
use Rattle.command_line.specs.Line.{is_component}
use Rattle.wit_component.proofs.PlacesLists.{filter_no}

-- ---- the file at a path

module _ (files : Files) (path : List ℕ) (k : ℕ) (d : Bor (List ℕ) × Bor (List ℕ)) (within : k < length files) where
  first_left : file_at (drop k files) path ≡ file_at (get_or files k d ∷ drop (suc k) files) path
  first_left = ap (λ fs. file_at fs path) (drop-cons files k d within)

  pub file_here : file_at files path ≡ file_at (drop k files) path → bytes_eq (get_or files k d).0.now path ≡ true → file_at files path ≡ Some (get_or files k d).1.now
  file_here left same = left ∙ first_left ∙ rw same refl

  pub file_later : file_at files path ≡ file_at (drop k files) path → bytes_eq (get_or files k d).0.now path ≡ false → file_at files path ≡ file_at (drop (k + 1) files) path
  file_later left other =
      let next : file_at (get_or files k d ∷ drop (suc k) files) path ≡ file_at (drop (suc k) files) path = rw other refl in
      left ∙ first_left ∙ next ∙ ap (λ n. file_at (drop n files) path) (sym (add-one k))

-- ---- texts

pub text_there : (path bytes : List ℕ) (found : Option (List ℕ)) → found ≡ Some bytes → IsUtf8 bytes → textless_path path found ≡ None
text_there path bytes found is text = rw (is, is_utf8-from_IsUtf8 bytes text) refl

pub no_text : (path bytes : List ℕ) (found : Option (List ℕ)) → found ≡ Some bytes → (IsUtf8 bytes → ⊥) → textless_path path found ≡ Some path
no_text path bytes found is other =
    elim (cases_Bool (is_utf8 bytes)) [
      | inl t ↦ absurd (other (IsUtf8-from_is_utf8 bytes t))
      | inr t ↦ rw (is, t) refl
    ]

-- ---- the first file at fault

or_none : (a b : Option (List ℕ)) → option_or a b ≡ None → b ≡ None
or_none None b h = h
or_none (Some x) b h = cc

module _ (files : Files) where
  item_left : (is : List Input) (k : ℕ) (x : Input) → k < length is → x ≡ get_or is k x → drop k is ≡ x ∷ drop (suc k) is
  item_left is k x lt at = drop-cons is k x lt ∙ ap (λ y. y ∷ drop (suc k) is) (sym at)

  pub fault_past : (is : List Input) (k : ℕ) (x : Input) → k < length is → x ≡ get_or is k x → input_fault files x ≡ None → file_fault files is ≡ file_fault files (drop k is)
      → file_fault files is ≡ file_fault files (drop (k + 1) is)
  fault_past is k x lt at none left =
      left ∙ ap (file_fault files) (item_left is k x lt at) ∙ ap (λ o. option_or o (file_fault files (drop (suc k) is))) none ∙ ap (λ n. file_fault files (drop n is)) (sym (add-one k))

  pub fault_here : (is : List Input) (k : ℕ) (x : Input) (s : Stop) → k < length is → x ≡ get_or is k x → file_fault files is ≡ file_fault files (drop k is)
      → IsFileStop (λ p. input_fault files x ≡ Some p) s → IsFileStop (λ p. file_fault files is ≡ Some p) s
  fault_here is k x (stops.Refused fault) lt at left why = why
  fault_here is k x (stops.Unresolved error place) lt at left why = why
  fault_here is k x (stops.File path) lt at left why = left ∙ ap (file_fault files) (item_left is k x lt at) ∙ ap (λ o. option_or o (file_fault files (drop (suc k) is))) why
  fault_here is k x stops.Usage lt at left why = why

  pub faulty : (is : List Input) (k : ℕ) (d : Input) (p : List ℕ) → k < length is → input_fault files (get_or is k d) ≡ Some p → file_fault files is ≢ None
  faulty [] k d p lt some none = absurd (omega arith)
  faulty (i ∷ is) zero d p lt some none = let bad : Some p ≡ None = sym (rw some refl) ∙ none in cc
  faulty (i ∷ is) (suc k) d p lt some none = faulty is k d p (omega arith) some (or_none (input_fault files i) (file_fault files is) none)

  pub hand_at : (r : Resolved) (main : ℕ) (chosen : List ℕ) (is : List Input) (k : ℕ) (x : Input) (s : Stop) → k < length is → x ≡ get_or is k x
      → IsInputStop files r main chosen x s → IsHandStop files r main chosen is s
  hand_at r main chosen is k x (stops.Refused fault) lt at (inl memory) = inl memory
  hand_at r main chosen is k x (stops.Refused fault) lt at (inr why) = inr (k, x, lt, sym at, why)
  hand_at r main chosen is k x (stops.Unresolved error place) lt at why = (k, x, lt, sym at, why)
  hand_at r main chosen is k x (stops.File path) lt at why = faulty is k x path.now lt (ap (input_fault files) (sym at) ∙ why)
  hand_at r main chosen is k x stops.Usage lt at why = why

  -- the text of an input isn't there
  pub text_missing : (IsWanted : ResolveErrorKind → Option (String Global) → Type 0) (is : List Input) (k : ℕ) (x : Input) (path : List ℕ) (s : Stop) → k < length is → x ≡ get_or is k x → input_fault files x ≡ textless_path path (file_at files path)
      → IsFileStop (λ p. textless_path path (file_at files path) ≡ Some p) s → IsTextsStop files IsWanted is s
  text_missing IsWanted is k x path (stops.Refused fault) lt at of why = absurd why
  text_missing IsWanted is k x path (stops.Unresolved error place) lt at of why = absurd why
  text_missing IsWanted is k x path (stops.File p) lt at of why = faulty is k x p.now lt (ap (input_fault files) (sym at) ∙ of ∙ why)
  text_missing IsWanted is k x path stops.Usage lt at of why = why

  pub no_component_file : {T : Type 0} (is : List Input) (k : ℕ) (x : Input) (path : String Global) (p : List ℕ) (r : Result T Stop) → k < length is → x ≡ get_or is k x → x ≡ inputs.Component path
      → p ≡ string_bytes path → IfErr r (IsFileStop (λ q. missing_path p (file_at files p) ≡ Some q)) → IfErr r (IsComponentStop files is)
  no_component_file is k x path p (Ok b) lt at this same why = why
  no_component_file is k x path p (Err (stops.Refused fault)) lt at this same why = why
  no_component_file is k x path p (Err (stops.Unresolved error place)) lt at this same why = why
  no_component_file is k x path p (Err (stops.File q)) lt at this same why =
      faulty is k x q.now lt (ap (input_fault files) (sym at ∙ this) ∙ ap (λ b. missing_path b (file_at files b)) (sym same) ∙ why)
  no_component_file is k x path p (Err stops.Usage) lt at this same why = absurd why

-- ---- components

pub not_component : (x : Input) → ((path : String Global) → x ≡ inputs.Component path → ⊥) → is_component x ≡ false
not_component (inputs.Text path) other = refl
not_component (inputs.Dep path) other = refl
not_component (inputs.Main world path) other = refl
not_component (inputs.Component path) other = absurd (other path refl)

pub component_past : (is : List Input) (k : ℕ) (x : Input) → k < length is → x ≡ get_or is k x → is_component x ≡ false → filter is_component is ≡ filter is_component (drop k is)
    → filter is_component is ≡ filter is_component (drop (k + 1) is)
component_past is k x lt at other left =
    left ∙ ap (filter is_component) (drop-cons is k x lt ∙ ap (λ y. y ∷ drop (suc k) is) (sym at)) ∙ filter_no is_component x (drop (suc k) is) other
    ∙ ap (λ n. filter is_component (drop n is)) (sym (add-one k))

-- ---- fronts

front_at : (texts : List (Bor (List ℕ))) (i w : ℕ) (d : Bor (List ℕ)) → i < length texts → w ≤ length (get_or texts i d).now
    → take (length (flat_map (λ t. t.now) (take i texts)) + w) (flat_map (λ t. t.now) texts) ≡ flat_map (λ t. t.now) (take i texts) ++ take w (get_or texts i d).now
front_at texts i w d lt within =
    let before = flat_map (λ t. t.now) (take i texts) in
    let after = (get_or texts i d).now ++ flat_map (λ t. t.now) (drop (suc i) texts) in
    let parts : flat_map (λ t. t.now) texts ≡ before ++ after =
    ap (flat_map (λ t. t.now)) (sym (take-append-drop i texts)) ∙ flat_map-append (λ t. t.now) (take i texts) (drop i texts)
    ∙ ap (λ ts. before ++ flat_map (λ t. t.now) ts) (drop-cons texts i d lt) in
    ap (take (length before + w)) parts ∙ take-append-add before after w ∙ ap (λ l. before ++ l) (take-append-le w (get_or texts i d).now _ within)

pub failed : (r : Result (Unit {0}) EmitFault) (old new : Option (List ℕ)) (bytes : List ℕ) → is_err r ≡ true → IfErr r (λ e. e.written < length bytes)
    → IfErr r (λ e. Appends old new (take e.written bytes)) → (w : ℕ) × (w ≤ length bytes) × Appends old new (take w bytes)
failed (Ok x) old new bytes is within front = cc
failed (Err e) old new bytes is within front = (e.written, omega arith, front)

pub appends_front : (old mid new : Option (List ℕ)) (texts : List (Bor (List ℕ))) (i : ℕ) (d : Bor (List ℕ)) (bytes : List ℕ) → i < length texts → bytes ≡ (get_or texts i d).now
    → Appends old mid (flat_map (λ t. t.now) (take i texts)) → ((w : ℕ) × (w ≤ length bytes) × Appends mid new (take w bytes)) → AppendsFront old new (flat_map (λ t. t.now) texts)
appends_front old mid new texts i d bytes lt is before more =
    let within : more.0 ≤ length (get_or texts i d).now = subst (λ b. more.0 ≤ length b) is more.1 in
    let last : Appends mid new (take more.0 (get_or texts i d).now) = subst (λ b. Appends mid new (take more.0 b)) is more.2 in (
      length (flat_map (λ t. t.now) (take i texts)) + more.0,
      subst (Appends old new) (sym (front_at texts i more.0 d lt within)) (Appends-trans old mid new _ _ before last),
    )

pub appends_all : (old new : Option (List ℕ)) (texts : List (Bor (List ℕ))) (i : ℕ) → length texts ≤ i → Appends old new (flat_map (λ t. t.now) (take i texts)) → AppendsFront old new (flat_map (λ t. t.now) texts)
appends_all old new texts i past h =
    let text = flat_map (λ t. t.now) texts in
    (length text, subst (Appends old new) (ap (flat_map (λ t. t.now)) (take_all i texts past) ∙ sym (take-length text)) h)
