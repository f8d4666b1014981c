-- What is handed to a session.
use Rattle.std.proofs.Common.{◌≡◌, ◌∙◌, ℕ, Bool, List, [], ◌∷◌, Option, Some, None, Result, Ok, Err, OnOk, sym, ap, subst, inl, inr, String, Global, string_bytes}
use Rattle.command_line.specs.declared.line.Input.{Input as LineInput}
use Rattle.command_line.specs.declared.line.Input.TheVariants as inputs
use Rattle.command_line.specs.declared.line.Line.{Line}
use Rattle.component_session.specs.Coming.{ResolveErrorKind}
use Rattle.component_session.specs.Errors.{of_selection}
use Rattle.component_session.specs.Input.{Input}
use Rattle.component_session.specs.Pushes.{Resolved, AreTextsPushed, AreTextsError, AreTextsKept}
use Rattle.wit_selection.specs.Selection.{IsSelectCause}
use Rattle.wit_selection.specs.declared.selection.SelectFault.{SelectFault}
use Rattle.wit_selection.specs.declared.selection.SelectFault.TheVariants as selection
use Rattle.wit_types.specs.declared.«package».PackageName.{PackageName}
use Rattle.wit_words.specs.Sources.{SourceText}
use Rattle.component_linker.specs.declared.program.Stop.{Stop}
use Rattle.component_linker.specs.declared.program.Stop.TheVariants as stops
use Rattle.component_linker.specs.Program.{Files, file_fault, opened, packages_of, Names, AreModules, IsCompleted, last_main, text_or, Handed}
use Rattle.component_linker.specs.Stops.{IsFileStop, IsPlaceOf, IsResolveStop, IsTextsStop, AreTextsNotTaken, IsNameError, IsInputStop, IsHandStop, IsCompleteStop, IsPrepareStop}

-- ---- what isn't resolved, and its place

-- texts aren't taken
pub not_taken : (eq : PackageName → PackageName → Bool) (old new : Resolved) (packages : List (List SourceText)) (kind : ResolveErrorKind) (s : Stop) → AreTextsError eq old packages kind → AreTextsKept old packages kind new
    → IsResolveStop (λ e p. (e ≡ kind) × IsPlaceOf new.texts e p) s → IsResolveStop (AreTextsNotTaken eq old packages) s
not_taken eq old new packages kind (stops.Refused fault) cause kept why = why
not_taken eq old new packages kind (stops.Unresolved error place) cause kept (same, at) = record {
  why = subst (AreTextsError eq old packages) (sym same) cause;
  left = new;
  kept = subst (λ e. AreTextsKept old packages e new) (sym same) kept;
  stands = at;
}
not_taken eq old new packages kind (stops.File path) cause kept why = why
not_taken eq old new packages kind stops.Usage cause kept why = why

pub of_texts : (files : Files) (IsWanted : ResolveErrorKind → Option (String Global) → Type 0) (line_inputs : List LineInput) (s : Stop) → IsResolveStop IsWanted s → IsTextsStop files IsWanted line_inputs s
of_texts files IsWanted line_inputs (stops.Refused fault) why = why
of_texts files IsWanted line_inputs (stops.Unresolved error place) why = why
of_texts files IsWanted line_inputs (stops.File path) why = absurd why
of_texts files IsWanted line_inputs stops.Usage why = why

-- nor are texts that aren't there
pub not_there : (files : Files) (IsWanted : ResolveErrorKind → Option (String Global) → Type 0) (line_inputs : List LineInput) (s : Stop) → IsTextsStop files (λ e p. ⊥) line_inputs s → IsTextsStop files IsWanted line_inputs s
not_there files IsWanted line_inputs (stops.Refused fault) why = why
not_there files IsWanted line_inputs (stops.Unresolved error place) why = absurd why
not_there files IsWanted line_inputs (stops.File path) why = why
not_there files IsWanted line_inputs stops.Usage why = why

-- a name that chooses no world stands in no text
nowhere : (texts : List SourceText) (fault : SelectFault) (place : Option (String Global)) → IsPlaceOf texts (of_selection fault) place → place ≡ None
nowhere texts selection.WorldNotFound place at = at
nowhere texts selection.OutOfMemory place at = at

pub unnamed : (r : Resolved) (main : ℕ) (text : List ℕ) (texts : List SourceText) (kind : ResolveErrorKind) (fault : SelectFault) (s : Stop) → IsSelectCause r.graph.tables.packages (main ∷ []) (Some text) fault
    → kind ≡ of_selection fault → IsResolveStop (λ e p. (e ≡ kind) × IsPlaceOf texts e p) s → IsResolveStop (IsNameError r main text) s
unnamed r main text texts kind fault (stops.Refused f) cause of why = why
unnamed r main text texts kind fault (stops.Unresolved error place) cause of (same, at) = (fault, cause, same ∙ of, nowhere texts fault place (subst (λ e. IsPlaceOf texts e place) (same ∙ of) at))
unnamed r main text texts kind fault (stops.File path) cause of why = why
unnamed r main text texts kind fault stops.Usage cause of why = why

pub unnamed_input : (files : Files) (r : Resolved) (main : ℕ) (chosen : List ℕ) (i : LineInput) (world path : String Global) (s : Stop) → i ≡ inputs.Main world path
    → IsResolveStop (IsNameError r main (text_or (string_bytes world) chosen)) s → IsInputStop files r main chosen i s
unnamed_input files r main chosen i world path (stops.Refused fault) of why = inl why
unnamed_input files r main chosen i world path (stops.Unresolved error place) of why = rw of why
unnamed_input files r main chosen i world path (stops.File p) of why = absurd why
unnamed_input files r main chosen i world path stops.Usage of why = why

module _ (eq : PackageName → PackageName → Bool) (files : Files) (l : Line) where
  -- ---- stops

  pub looked : (s : Stop) → IsFileStop (λ p. file_fault files l.inputs.items ≡ Some p) s → IsPrepareStop eq files l s
  looked (stops.Refused fault) why = absurd why
  looked (stops.Unresolved error place) why = absurd why
  looked (stops.File path) why = why
  looked stops.Usage why = why

  pub texts_stop : (s : Stop) → file_fault files l.inputs.items ≡ None → IsTextsStop files (AreTextsNotTaken eq (opened l).resolved (packages_of files l.inputs.items)) l.inputs.items s → IsPrepareStop eq files l s
  texts_stop (stops.Refused fault) there why = inl why
  texts_stop (stops.Unresolved error place) there why = inl why
  texts_stop (stops.File path) there why = absurd (why there)
  texts_stop stops.Usage there why = why

  pub complete_stop : (r : Resolved) (main : ℕ) (s : Stop) → file_fault files l.inputs.items ≡ None → AreTextsPushed eq (opened l).resolved (packages_of files l.inputs.items) r main
      → IsCompleteStop files r main l s → IsPrepareStop eq files l s
  complete_stop r main (stops.Refused fault) there packages why = why
  complete_stop r main (stops.Unresolved error place) there packages why = inr (record { resolved = r; main = main; packages = packages; none = why })
  complete_stop r main (stops.File path) there packages why = absurd (why there)
  complete_stop r main stops.Usage there packages why = why

  pub name_stop : (r : Resolved) (main : ℕ) (s : Stop) → IsResolveStop (IsNameError r main (string_bytes l.world)) s → IsCompleteStop files r main l s
  name_stop r main (stops.Refused fault) why = inl why
  name_stop r main (stops.Unresolved error place) why = inl why
  name_stop r main (stops.File path) why = absurd why
  name_stop r main stops.Usage why = why

  pub hand_stop : (r : Resolved) (main : ℕ) (s : Stop) → IsHandStop files r main (string_bytes l.world) l.inputs.items s → IsCompleteStop files r main l s
  hand_stop r main (stops.Refused fault) why = why
  hand_stop r main (stops.Unresolved error place) why = inr why
  hand_stop r main (stops.File path) why = why
  hand_stop r main stops.Usage why = why

  -- ---- a session that took the texts, then the line's world and then the modules

  pub handed : (first texts given : Input) (main : ℕ) → file_fault files l.inputs.items ≡ None → first ≡ opened l → AreTextsPushed eq first.resolved (packages_of files l.inputs.items) texts.resolved main
      → texts ≡ record first { resolved = texts.resolved } → IsCompleted files main l texts given → Handed eq files l given
  handed first texts given main there opens packages rest done =
      let same : given.resolved ≡ texts.resolved = ap (λ (i : Input). i.resolved) done.rest in
      record {
        there = there;
        «package» = main;
        packages = subst (λ (r : Resolved). AreTextsPushed eq (opened l).resolved (packages_of files l.inputs.items) r main) (sym same) (subst (λ (i : Input). AreTextsPushed eq i.resolved (packages_of files l.inputs.items) texts.resolved main) opens packages);
        chosen = done.chosen;
        chooses = ap (λ (i : Input). i.world) done.rest;
        world = subst (λ (r : Resolved). Names r main (string_bytes l.world) done.chosen) (sym same) done.world;
        modules = subst (λ (r : Resolved). AreModules files r main l (last_main l.inputs.items) given.modules) (sym same) done.modules;
        options = ap (λ (i : Input). i.options) done.rest ∙ ap (λ (i : Input). i.options) rest ∙ ap (λ (i : Input). i.options) opens;
      }

-- a session that chose the line's world, and then was handed the modules
pub completed : (files : Files) (l : Line) (main w : ℕ) (old chosen new : Input) → chosen ≡ record old { world = Some w } → Names old.resolved main (string_bytes l.world) w
    → AreModules files chosen.resolved main l (last_main l.inputs.items) new.modules → new ≡ record chosen { modules = new.modules } → IsCompleted files main l old new
completed files l main w old chosen new chose names is rest = record {
  chosen = w;
  world = names;
  modules = subst (λ (i : Input). AreModules files i.resolved main l (last_main l.inputs.items) new.modules) chose is;
  rest = rest ∙ ap (λ (i : Input). record i { modules = new.modules }) chose;
}

-- what follows from two facts where there is no error
pub both_ok : {T E A B C : Type 0} (r : Result T E) → (A → B → C) → OnOk r A → OnOk r B → OnOk r C
both_ok (Ok x) f a b = f a b
both_ok (Err e) f a b = tt
