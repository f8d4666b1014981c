use Rattle.std.proofs.Common.{ℕ, List, ap, ◌∙◌, length}
use Rattle.std.proofs.lemmas.Result.{IfErr-weaker, on_ok_weaker}
use Rattle.wit_types.specs.declared.world.World.{World}
use Rattle.wit_uses.specs.Passed.wit_joined-Joined.{IsJoinedWorld}
use Rattle.wit_graph_worlds.specs.Worlds.{state}
use Rattle.wit_graph_worlds.specs.Added.{IsPutCause, IsAddCause}
use Rattle.wit_graph_worlds.specs.declared.worlds.WorldFault.{WorldFault}
use Rattle.wit_graph_worlds.proofs.Including.{IsJoinedNamed}
use Rattle.wit_graph_worlds.proofs.Adding.{at_place, joined_there, put_cause, sound_more}
use Rattle.wit_graph_worlds.proofs.Whole.{elaborated_more}
use Rattle.wit_graph_worlds.proofs.worlds.add_world.Goals as goal
use Rattle.wit_graph_worlds.proofs.worlds.add_world.Goals.{In_ok-joined}

-- the world with all that it includes, behind the others
is_joined : (c : In_ok-joined) → IsJoinedWorld c.args.worlds.now.listed (length c.args.worlds.now.listed) c.args.owner c.args.moved c.args.types.now c.joined_world.new.types c.in_ok-joined.joined
is_joined c =
    at_place (λ (ws : List World) (id : ℕ). IsJoinedWorld ws id c.args.owner c.args.moved c.args.types.now c.joined_world.new.types c.in_ok-joined.joined)
    c.args.worlds.now.listed c.listed-2.result.now c.from_index-id.result c.listed-2.ensures (c.from_index-id.ensures ∙ (c.len.ensures ∙ ap length c.listed.ensures)) c.in_ok-joined.ensures.ok

is_named : (c : In_ok-joined) → IsJoinedNamed (length c.args.interfaces.now.uses.now) c.joined_world.new.types c.in_ok-joined.joined
is_named c = joined_there (length c.args.interfaces.now.uses.now) c.args.owner c.args.types.now c.joined_world.new.types c.args.worlds.now c.args.moved c.in_ok-joined.joined c.requires.sound c.requires.there (is_joined c)

pub add_joined-requires-clause-owners : goal.add_joined-requires-clause-owners
add_joined-requires-clause-owners c = (is_named (goal.at.add_joined-requires-clause-owners c).In_ok-joined).owners

pub add_joined-requires-clause-world : goal.add_joined-requires-clause-world
add_joined-requires-clause-world c =
    let named = is_named (goal.at.add_joined-requires-clause-world c).In_ok-joined in
    record { sides = c.in_ok-joined.ensures.there; interfaces = named.interfaces; keys = named.keys }

pub returns-clause-ok : goal.returns-clause-ok
returns-clause-ok c =
    on_ok_weaker c.add_joined.result
    (λ put. record {
      joined = c.in_ok-joined.joined;
      listed = put.listed;
      elaborated = put.elaborated;
      is_joined = is_joined (goal.at.returns-clause-ok c).In_ok-joined;
      is_listed = put.is_listed;
      is_elaborated = put.is_elaborated;
      listed_are = put.listed_are;
      elaborated_are = put.elaborated_are;
    })
    c.add_joined.ensures.ok

pub returns-clause-sound : goal.returns-clause-sound
returns-clause-sound c =
    let named = is_named (goal.at.returns-clause-sound c).In_ok-joined in
    let i = c.args.interfaces.now in
    let new = c.joined_world.new.types in
    let grown = c.in_ok-joined.ensures.grown in
    on_ok_weaker c.add_joined.result
    (sound_more (length i.uses.now) i.interfaces.now i.uses.now c.args.types.now grown.0 new c.args.worlds.now c.add_joined.new.worlds c.in_ok-joined.joined grown.1 c.requires.sound
    c.in_ok-joined.ensures.backward named.owners (record { sides = c.in_ok-joined.ensures.there; interfaces = named.interfaces; keys = named.keys }))
    c.add_joined.ensures.ok

pub returns-clause-elaborated : goal.returns-clause-elaborated
returns-clause-elaborated c =
    let named = is_named (goal.at.returns-clause-elaborated c).In_ok-joined in
    let i = c.args.interfaces.now in
    let grown = c.in_ok-joined.ensures.grown in
    on_ok_weaker c.add_joined.result
    (elaborated_more i.interfaces.now i.uses.now c.args.types.now grown.0 c.joined_world.new.types c.args.worlds.now c.add_joined.new.worlds c.in_ok-joined.joined c.law_elaborated_worlds_stay.ensures grown.1 c.requires.rows c.requires.uses c.requires.sound
    c.requires.elaborated (record { sides = c.in_ok-joined.ensures.there; interfaces = named.interfaces; keys = named.keys }))
    c.add_joined.ensures.ok

pub returns-clause-cause : goal.returns-clause-cause
returns-clause-cause c =
    let types = c.joined_world.new.types in
    let i = c.args.interfaces.now in
    let s = state c.args.types.now c.args.worlds.now in
    IfErr-weaker c.add_joined.result (IsPutCause i.uses.now types c.in_ok-joined.joined) (IsAddCause i.interfaces.now i.uses.now c.args.owner c.args.moved s)
    (λ (fault : WorldFault) (h : IsPutCause i.uses.now types c.in_ok-joined.joined fault). put_cause i.interfaces.now i.uses.now c.args.owner c.args.moved s types c.in_ok-joined.joined fault (is_joined (goal.at.returns-clause-cause c).In_ok-joined) h)
    c.add_joined.ensures.cause
