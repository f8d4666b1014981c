use Rattle.std.proofs.Common.{◌≡◌, true, false, sym, ◌∙◌, subst}
use Rattle.wit_order.specs.Order.{Has}
use Rattle.wit_types.specs.WorldKey.{known}
use Rattle.wit_types.specs.declared.world.WorldItem.{WorldItem}
use Rattle.wit_types.specs.declared.world_key.WorldKey.{WorldKey}
use Rattle.export_keys.specs.Keys.{export_keys}
use Rattle.export_keys.proofs.Found.{found_is, one_is_found, key_at, one_more, never_some}
use Rattle.export_keys.proofs.keys.exports_all.Goals.{in-Some+else-not-contains_key, in_default}
use Rattle.export_keys.proofs.keys.exports_all.Goals as goal

pub returns-then-not-contains_key-clause-no : goal.returns-then-not-contains_key-clause-no
returns-then-not-contains_key-clause-no c = λ _. (
  known c.in-Some.key.now,
  key_at c.args.other.now.exports.entries c.loop-place.place _ (sym c.in-Some.ensures.entry),
  λ h. (let bad : true ≡ false = sym (one_is_found c.in-Some.key.now c.args.world.now.exports.entries h) ∙ (sym c.contains_key.ensures ∙ c.if-not-contains_key.true) in absurd cc),
)

pub loop-place-preserved : goal.loop-place-preserved
loop-place-preserved c =
    one_more (λ k. Has (export_keys c.args.world.now) k) c.args.other.now.exports.entries c.loop-place.place c.loop-place.invariant
    (λ e at. elim c.match-get_index.branch [
      | in-Some+else-not-contains_key w ↦
          let same : (w.in-Some.key.now, w.in-Some.field-0-1.now) ≡ e = (let both = w.in-Some.ensures.entry ∙ at in cc) in
          subst (λ (x : WorldKey × WorldItem). Has (export_keys c.args.world.now) (known x.0)) same
          (found_is w.in-Some.key.now c.args.world.now.exports.entries (sym w.contains_key.ensures ∙ w.if-not-contains_key.false))
      | in_default w ↦ absurd (never_some _ c.get_index.result e (c.get_index.ensures.entry ∙ at) w.in_default.not-Some)
    ])
