use Rattle.std.proofs.Common.{◌≡◌, List, Some, ap, [], ◌∷◌, ◌++◌, inl}
use Rattle.std.specs.Prelude.{slice_get, option_map, string_bytes}
use Rattle.std.proofs.lemmas.Result.{IfOk-weaker, IfErr-weaker, on_err_weaker}
use Rattle.component_definitions.specs.declared.externs.Description.TheVariants as descriptions
use Rattle.component_sections.specs.Passed.component_instances-Declarators.{declared_export}
use Rattle.type_writing.specs.Writing.{KindStands}
use Rattle.type_writing.proofs.Standing.{in_either}
use Rattle.type_writing.proofs.Refusals.{cause_weaker}
use Rattle.wit_types.specs.declared.interface.TypeDef.{TypeDef}
use Rattle.type_sinks.specs.Kept.{index_of}
use Rattle.type_sinks.specs.Views.{inside, inside_names, inside_setting, InsideIsGood, InsideIsPlaced, IsGiven}
use Rattle.type_sinks.proofs.Rooted.{ok_always}
use Rattle.type_sinks.proofs.Declared.{inside_stays, index_after, setting_after, names_after, export_after, exported, given_same, given_more, given_last, root_stays_outside}
use Rattle.type_sinks.proofs.PlacedInside.{export_type_placed, same_inside_placed}
use Rattle.type_sinks.proofs.inside.InterfaceTypesValtypeEncoder.declare.Goals as goal

pub returns : goal.returns
returns c =
    let old = c.args.self.now in
    let new = c.export_type.new.self in
    let owner = c.args._owner in
    let n = c.args.name.now in
    let id = c.args.id in
    let body = c.args.index in
    let d = declared_export n (descriptions.Equal body) in
    let ids = old.exports.items ++ id ∷ [] in
    let own = c.requires in
    let r = c.export_type.result in
    let a = c.export_type.ensures in
    let stays = inside_stays old new in
    record {
      setting = in_either {R = inside_setting new ≡ inside_setting old} r _ (λ i h. setting_after old new d ids h.2) (λ s. (stays s).setting) a.ok a.err;
      outside = root_stays_outside old new (in_either r _ (λ i h. h.2.root) (λ s. s.root) a.ok a.err);
      table = ap index_of a.known;
      names = ok_always {P = inside_names new ≡ inside_names old ++ n ∷ []} r _ (λ i h. names_after old new d ids h.2) a.ok;
      gives = ok_always {P = IsGiven new id} r _ (λ i h. given_last old new id h.2.exports) a.ok;
      keeps = λ k g. in_either {R = IsGiven new k} r _ (λ i h. given_more old new k id h.2.exports g) (λ s. given_same old new k s.exports g) a.ok a.err;
      good = ok_always {P = (types : List TypeDef) (d : TypeDef) → InsideIsGood old types → slice_get types id ≡ Some d → d.owner ≡ owner → option_map string_bytes d.name ≡ Some n → KindStands (inside_setting old).label types (inside old).types d.kind body → InsideIsGood new types} r _ (λ i h types e g at is name stands. exported old new n id body types e owner h.2 h.1 own g at is name stands) a.ok;
      placed = λ lt p. in_either {R = InsideIsPlaced new} r _ (λ i h. export_type_placed old new n body ids h.1 lt h.2 p) (λ s. same_inside_placed old new s p) a.ok a.err;
      ok = IfOk-weaker r _ _ (λ i h. (index_after old i h.0, export_after old new owner n body ids own h.2)) a.ok;
      err = on_err_weaker {Q = ((inside new).types ≡ (inside old).types) × (inside_names new ≡ inside_names old) × ((types : List TypeDef) → InsideIsGood old types → InsideIsGood new types)} r (λ s. let t = stays s in (t.types, t.names, t.good)) a.err;
      cause = IfErr-weaker r _ _ (cause_weaker (λ h. h) (λ h. inl h)) a.cause;
    }
