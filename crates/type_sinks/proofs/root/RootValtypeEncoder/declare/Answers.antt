use Rattle.std.proofs.Common.{◌≡◌, List, Some, refl, [], ◌∷◌, ◌++◌, ap}
use Rattle.std.specs.Prelude.{slice_get, option_map, string_bytes}
use Rattle.std.proofs.lemmas.Result.{IfOk-weaker, on_err_weaker}
use Rattle.component_definitions.specs.declared.externs.Description.TheVariants as descriptions
use Rattle.component_sections.specs.Passed.component_entries-Entries.{an_import}
use Rattle.wit_types.specs.declared.interface.TypeDef.{TypeDef}
use Rattle.type_writing.specs.Writing.{KindStands}
use Rattle.type_writing.proofs.Standing.{begins_here, in_either}
use Rattle.type_sinks.specs.Kept.{index_of}
use Rattle.type_sinks.specs.Views.{root_scope, root_names, root_setting, RootIsGood, RootIsPlaced}
use Rattle.type_sinks.proofs.RootImports.{import_type_keeps}
use Rattle.type_sinks.proofs.Rooted.{import_added, names_added, fresh_import, setting_added, root_keeps, root_stays, ok_always}
use Rattle.type_sinks.proofs.PlacedRoot.{import_type_placed, same_placed}
use Rattle.type_sinks.proofs.root.RootValtypeEncoder.declare.Goals as goal

pub returns : goal.returns
returns c =
    let old = c.args.self.now in
    let new = c.import_type.new.self in
    let owner = c.args._owner in
    let n = c.args.name.now in
    let id = c.args._id in
    let body = c.args.index in
    let r = c.import_type.result in
    let a = c.import_type.ensures in
    let e = an_import (record { name = n; description = descriptions.Equal body }) in
    let stays = root_stays old new in
    record {
      setting = in_either {R = root_setting new ≡ root_setting old} r _ (λ i h. setting_added old new e h.2 refl refl) (λ s. (stays s).0) a.ok a.err;
      outside = begins_here [];
      table = in_either r _ (λ i h. ap index_of h.2.known) (λ s. ap index_of s.known) a.ok a.err;
      names = ok_always {P = root_names new ≡ root_names old ++ n ∷ []} r _ (λ i h. names_added old new e h.2) a.ok;
      gives = ok_always r _ (λ i h. tt) a.ok;
      keeps = λ k h. tt;
      good = ok_always {P = (types : List TypeDef) (d : TypeDef) → RootIsGood old types → slice_get types id ≡ Some d → d.owner ≡ owner → option_map string_bytes d.name ≡ Some n → KindStands (root_setting old).label types (root_scope old).types d.kind body → RootIsGood new types} r _ (λ i h types d g at owner name stands. root_keeps old new e types h.2 (import_type_keeps (root_scope old) n body (fresh_import old n h.1)) g) a.ok;
      placed = λ lt p. in_either {R = RootIsPlaced new} r _ (λ i h. import_type_placed old new n body h.1 lt h.2 p) (λ s. same_placed old new s p) a.ok a.err;
      ok = IfOk-weaker r _ _ (λ i h. (h.0, import_added old new owner n body c.requires h.2)) a.ok;
      err = on_err_weaker {Q = ((root_scope new).types ≡ (root_scope old).types) × (root_names new ≡ root_names old) × ((types : List TypeDef) → RootIsGood old types → RootIsGood new types)} r (λ s. let t = stays s in (t.1, t.2, t.4)) a.err;
      cause = a.cause;
    }
