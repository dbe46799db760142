-- Entries that are laid flat, one after another.
use Rattle.std.proofs.Common.{◌≡◌, ℕ, ◌+◌, ◌*◌, ◌<◌, ◌≤◌, List, [], ◌∷◌, ◌++◌, length, map, take, get_or, sym, ◌∙◌, ap, subst, arith, append_assoc}
use Rattle.std.specs.Prelude.{ℤ}
use Rattle.std.specs.List.{AllByRecursion}
use Rattle.std.proofs.lemmas.List.{get_or-map, length-map, take_all, take_more}
use Rattle.node_pool.specs.Nodes.{Node, node}
use Rattle.node_pool.specs.PoolSteps.{IsRow, nodes_of}
use Rattle.node_pool.proofs.NodeLists.{nodes-more, row-more}
use Rattle.stage_network.proofs.Roomwise.{all_at}
use Rattle.stage_network.specs.declared.ordering.Entry.{Entry}
use Rattle.stage_network.specs.Ordering.{entry_node}

pub record AreLaid (width : ℕ) (entries : List Entry) (i : ℕ) (row : List ℤ) (weights : List ℕ) : Type 0 where
  pub nodes : nodes_of width row weights ≡ take i (map entry_node entries)
  pub long : length row ≡ length weights * width

pub laid-more : (width : ℕ) (entries : List Entry) (i : ℕ) (row between row' : List ℤ) (weights weights' : List ℕ) (d : Entry) → i < length entries → AllByRecursion (λ (a : Node). length a.key ≡ width) (map entry_node entries) → between ≡ row ++ (get_or entries i d).room.now → row' ≡ between ++ (get_or entries i d).partial.now → weights' ≡ weights ++ (get_or entries i d).weight ∷ [] → AreLaid width entries i row weights → AreLaid width entries (i + 1) row' weights'
laid-more width entries i row between row' weights weights' d low wide half more more' was =
    let e : Entry = get_or entries i d in
    let key : List ℤ = e.room.now ++ e.partial.now in
    let all : List Node = map entry_node entries in
    let within : i < length all = omega (arith, low, length-map entries entry_node) in
    let rows : IsRow width row weights = record { long = was.long } in
    let at : get_or all i (node key e.weight) ≡ node key e.weight = get_or-map entry_node entries i d (node key e.weight) low in
    let long : length key ≡ width = subst (λ (a : Node). length a.key ≡ width) at (all_at (λ (a : Node). length a.key ≡ width) all i (node key e.weight) wide within) in
    rw (more, half, more', append_assoc row e.room.now e.partial.now) (record {
      nodes = nodes-more rows key e.weight long ∙ ap (λ ns. ns ++ node key e.weight ∷ []) was.nodes ∙ ap (λ a. take i all ++ a ∷ []) (sym at) ∙ sym (take_more all i (node key e.weight) within);
      long = (row-more rows key e.weight long).long;
    })

pub laid-all : (width : ℕ) (entries : List Entry) (i : ℕ) (row : List ℤ) (weights : List ℕ) → length entries ≤ i → AreLaid width entries i row weights → nodes_of width row weights ≡ map entry_node entries
laid-all width entries i row weights last was = was.nodes ∙ take_all i (map entry_node entries) (omega (arith, last, length-map entries entry_node))
