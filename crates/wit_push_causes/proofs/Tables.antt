-- The names of what a package brings are the same where that says the same.
use Rattle.std.proofs.Common.{◌≡◌, ℕ, suc, List, [], ◌∷◌, ◌++◌, Option, Some, None, String, refl, sym, ap, ap₂, ◌∙◌, map, bytes_eq}
use Rattle.std.specs.Prelude.{string_bytes}
use Rattle.std.specs.declared.alloc.Global.{Global}
use Rattle.indexmap.specs.IndexMap.{insert_all}
use Rattle.wit_types.specs.declared.interface.Interface.{Interface}
use Rattle.wit_plans.specs.declared.moves.MovedWorld.{MovedWorld}
use Rattle.wit_groups.specs.Passed.wit_graph_worlds-Names.{Pair, name_at, interface_names, world_names, AreNames}
use Rattle.wit_push_causes.specs.Said.{Text, SaidInterface, text_said, names_said, interface_said}
use Rattle.wit_push_causes.proofs.Moving.{SaidMoved, moved_world_said}

abbrev said_name_at : ℕ → Option Text → List Pair
said_name_at i None = []
said_name_at i (Some x) = (x, i) ∷ []

name_at_said : (i : ℕ) (o : Option (String Global)) → said_name_at i (text_said o) ≡ name_at i o
name_at_said i None = refl
name_at_said i (Some x) = refl

abbrev said_interface_names : ℕ → List SaidInterface → List Pair
said_interface_names i [] = []
said_interface_names i (d ∷ ds) = said_name_at i d.name ++ said_interface_names (suc i) ds

interface_names_said : (i : ℕ) (ds : List Interface) → said_interface_names i (map interface_said ds) ≡ interface_names i ds
interface_names_said i [] = refl
interface_names_said i (d ∷ ds) = ap₂ (λ (a b : List Pair). a ++ b) (name_at_said i d.name) (interface_names_said (suc i) ds)

abbrev said_world_names : ℕ → List SaidMoved → List Pair
said_world_names i [] = []
said_world_names i (m ∷ ms) = (m.name, i) ∷ said_world_names (suc i) ms

world_names_said : (i : ℕ) (ms : List MovedWorld) → said_world_names i (map moved_world_said ms) ≡ world_names i ms
world_names_said i [] = refl
world_names_said i (m ∷ ms) = ap (λ (l : List Pair). (string_bytes m.name, i) ∷ l) (world_names_said (suc i) ms)

names_of : (ps qs : List Pair) (xs ys : List (String Global × ℕ)) → ps ≡ qs → AreNames ps xs → AreNames qs ys → names_said xs ≡ names_said ys
names_of ps qs xs ys same a b = a ∙ ap (insert_all bytes_eq []) same ∙ sym b

pub interface_names_same : (i j : ℕ) (ds es : List Interface) (xs ys : List (String Global × ℕ)) → i ≡ j → map interface_said ds ≡ map interface_said es → AreNames (interface_names i ds) xs → AreNames (interface_names j es) ys → names_said xs ≡ names_said ys
interface_names_same i j ds es xs ys place same a b =
    names_of (interface_names i ds) (interface_names j es) xs ys (sym (interface_names_said i ds) ∙ ap₂ said_interface_names place same ∙ interface_names_said j es) a b

pub world_names_same : (i j : ℕ) (ms ns : List MovedWorld) (xs ys : List (String Global × ℕ)) → i ≡ j → map moved_world_said ms ≡ map moved_world_said ns → AreNames (world_names i ms) xs → AreNames (world_names j ns) ys → names_said xs ≡ names_said ys
world_names_same i j ms ns xs ys place same a b =
    names_of (world_names i ms) (world_names j ns) xs ys (sym (world_names_said i ms) ∙ ap₂ said_world_names place same ∙ world_names_said j ns) a b
