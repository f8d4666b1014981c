use Rattle.std.proofs.Common.{refl, ◌≡◌, ◌<◌, ◌++◌, ℕ, Option, sym, ap, subst, ◌∙◌, append_assoc, length, inl, inr}
use Rattle.std.specs.List.{All}
use Rattle.wit_order.specs.Order.{Has}
use Rattle.wit_types.specs.declared.interface.TypeOwner.TheVariants as belongs
use Rattle.wit_reach.specs.Paths.{AreEnds}
use Rattle.wit_reach.specs.Made.{IsMadeOfWithin}
use Rattle.type_sinks.specs.Passed.type_writing-Writing.{Setting, names_of_types}
use Rattle.type_sinks.proofs.Passed.type_writing-Standing.{begins_on, begins_same}
use Rattle.type_sinks.specs.Views.{root_scope, root_names, root_setting}
use Rattle.component_imports.specs.Functions.{functions_of, function_names}
use Rattle.component_imports.specs.Interfaces.{ids_of}
use Rattle.std.proofs.lemmas.Result.{err_from_is_err_and}
use Rattle.type_sinks.specs.Passed.type_writing-Writing.{IsRemembered}
use Rattle.type_sinks.proofs.Passed.type_writing-Refusals.{cause_weaker}
use Rattle.type_sinks.specs.Kept.{index_of}
use Rattle.component_imports.specs.World.{AreFunctionsAt, AreWorldItemsUnready}
use Rattle.component_imports.proofs.Exported.{items_cause}
use Rattle.component_imports.proofs.Walked.{all_has, ends_there, starts_are}
use Rattle.wit_reach.proofs.Local.{sides_there}
use Rattle.component_imports.proofs.world.import_functions.Goals as goal

pub made_of_within-requires-clause-there : goal.made_of_within-requires-clause-there
made_of_within-requires-clause-there c =
    let starts = starts_are c.args.others.now (ids_of (functions_of c.args.functions.now)) c.new-starts.result.items c.extend_from_slice.new.self.items c.add_functions.new.ids.items c.new-starts.ensures.items c.in_ok-extend_from_slice.ensures.items c.in_ok-add_functions.ensures in
    sides_there c.args.types.now c.args.others.now (ids_of (functions_of c.args.functions.now)) c.as_slice.result.now (c.as_slice.ensures.value ∙ starts) c.requires.others_there c.requires.there

pub write_types-requires : goal.write_types-requires
write_types-requires c =
    let types = c.args.types.now in
    let starts = c.as_slice.ensures.value ∙ starts_are c.args.others.now (ids_of (functions_of c.args.functions.now)) c.new-starts.result.items c.extend_from_slice.new.self.items c.add_functions.new.ids.items c.new-starts.ensures.items c.in_ok-extend_from_slice.ensures.items c.in_ok-add_functions.ensures in
    let ids = c.in_ok-ids.ids.items in
    let there : All (λ id. id < length types) c.as_slice-2.result.now = subst (All (λ id. id < length types)) (sym c.as_slice-2.ensures.value)
    (all_has (λ id. id < length types) ids (ends_there types (belongs.World c.args.world) c.as_slice.result.now ids c.requires.backward (sides_there types c.args.others.now (ids_of (functions_of c.args.functions.now)) c.as_slice.result.now starts c.requires.others_there c.requires.there) c.in_ok-ids.ensures)) in
    λ k. ((refl, tt), (there, c.requires.good))

pub returns : goal.returns
returns c =
    let old = c.args.root in
    let types = c.args.types.now in
    let fs = functions_of c.args.functions.now in
    let mid = c.write_types.new.sink in
    let new = c.add_imports.new.root in
    let w = c.in_ok-write_types.ensures in
    let a = c.in_ok-add_imports.ensures in
    let ids = c.in_ok-ids.ids.items in
    let starts = c.as_slice.ensures.value ∙ starts_are c.args.others.now (ids_of fs) c.new-starts.result.items c.extend_from_slice.new.self.items c.add_functions.new.ids.items c.new-starts.ensures.items c.in_ok-extend_from_slice.ensures.items c.in_ok-add_functions.ensures in
    let functions : (root_scope mid).functions ≡ (root_scope old).functions = ap (λ (s : Setting). s.around.functions) w.setting in
    let given = w.names ∙ ap (λ l. root_names old ++ names_of_types (root_setting old) types l) c.as_slice-2.ensures.value in
    record {
      ok = record {
        interfaces = a.interfaces ∙ ap (λ (s : Setting). s.around.interfaces) w.setting;
        homes = a.homes ∙ ap (λ (s : Setting). s.homes) w.setting;
        types_stay = begins_on (root_scope old).types (root_scope mid).types (root_scope new).types w.begins a.types;
        functions_stay = begins_on (root_scope old).functions (root_scope mid).functions (root_scope new).functions (begins_same (root_scope old).functions (root_scope mid).functions functions) a.functions;
        instances_stay = a.instances ∙ ap (λ (s : Setting). s.around.instances) w.setting;
        good = a.good types w.good;
        ids = ids;
        are = subst (λ l. AreEnds (IsMadeOfWithin (belongs.World c.args.world) types) (Has l) ids) starts c.in_ok-ids.ensures;
        remembered = λ id h. subst (λ (table : ℕ → Option ℕ). IsRemembered table id) (sym a.table) (w.remembered id (inr (subst (λ l. Has l id) (sym c.as_slice-2.ensures.value) h)));
        names = a.names ∙ ap (λ l. l ++ function_names fs) given ∙ append_assoc (root_names old) (names_of_types (root_setting old) types ids) (function_names fs);
        has = subst (λ k. AreFunctionsAt new k types fs) (ap length functions) (a.are types w.good);
      };
      placed = λ labels parameters p. a.placed types w.good parameters (w.placed labels p);
      cause = tt;
    }

pub returns-in_err-write_types-clause-cause : goal.returns-in_err-write_types-clause-cause
returns-in_err-write_types-clause-cause c =
    let old = c.args.root in
    let types = c.args.types.now in
    let fs = functions_of c.args.functions.now in
    let starts = c.as_slice.ensures.value ∙ starts_are c.args.others.now (ids_of fs) c.new-starts.result.items c.extend_from_slice.new.self.items c.add_functions.new.ids.items c.new-starts.ensures.items c.in_ok-extend_from_slice.ensures.items c.in_ok-add_functions.ensures in
    let ends = subst (λ l. AreEnds (IsMadeOfWithin (belongs.World c.args.world) types) (Has l) c.in_ok-ids.ids.items) starts c.in_ok-ids.ensures in
    let moved = err_from_is_err_and c.from_residual-in_err-write_types.result c.from_residual-in_err-write_types.ensures.1 in
    rw (moved.1, moved.2)
    (cause_weaker (λ h. (c.in_ok-ids.ids.items, ends, subst (λ l. AreWorldItemsUnready old types l fs) c.as_slice-2.ensures.value (inl h))) (λ h. tt) c.in_err-write_types.field-0.0 c.in_err-write_types.ensures.cause)

pub returns-in_err-add_imports-clause-cause : goal.returns-in_err-add_imports-clause-cause
returns-in_err-add_imports-clause-cause c =
    let old = c.args.root in
    let types = c.args.types.now in
    let fs = functions_of c.args.functions.now in
    let mid = c.write_types.new.sink in
    let w = c.in_ok-write_types.ensures in
    let starts = c.as_slice.ensures.value ∙ starts_are c.args.others.now (ids_of fs) c.new-starts.result.items c.extend_from_slice.new.self.items c.add_functions.new.ids.items c.new-starts.ensures.items c.in_ok-extend_from_slice.ensures.items c.in_ok-add_functions.ensures in
    let ends = subst (λ l. AreEnds (IsMadeOfWithin (belongs.World c.args.world) types) (Has l) c.in_ok-ids.ids.items) starts c.in_ok-ids.ensures in
    let moved = err_from_is_err_and c.from_residual-in_err-add_imports.result c.from_residual-in_err-add_imports.ensures.1 in
    rw (moved.1, moved.2)
    (cause_weaker (λ h. (
      c.in_ok-ids.ids.items,
      ends,
      subst (λ l. AreWorldItemsUnready old types l fs) c.as_slice-2.ensures.value
          (inr (items_cause (IsRemembered (index_of old.known)) (IsRemembered (index_of mid.known)) _ _ c.as_slice-2.result.now fs w.remembered w.names h)),
    )) (λ h. tt) c.in_err-add_imports.field-0.0 c.in_err-add_imports.ensures.cause)
