use Rattle.std.proofs.Common.{◌≡◌, ◌≤◌, ◌+◌, ◌*◌, ◌/◌, ◌%◌, ◌<◌, ℕ, Bool, true, false, map, is_some, List, Option, length, get_or, set, Some, refl, sym, ap, ◌∙◌, arith}
use Rattle.std.proofs.lemmas.List.{set-set}
use Rattle.disk_core.specs.Bytes.{put_at}
use Rattle.disk_mem.specs.declared.leaf.Leaf.{Leaf}
use Rattle.disk_mem.specs.Pages.{Paged, leaf_bytes, shown}
use Rattle.disk_mem.proofs.Content.{shown_put, length-shown, made_is, made_still}
use Rattle.disk_mem.proofs.pages.Pages.put.Goals as goal

-- a piece put into a page of leaf k
put_there : (size index k j from at : ℕ) (table : List (Option Leaf)) (slot : Option Leaf) (leaf : Leaf) (piece bytes :
    List ℕ) → shown size table ≡ bytes → get_or (map is_some table) k false ≡ true → slot ≡ get_or table k slot
    → index ≡ 512 * k + j → j < 512 → from + length piece ≤ 4096 → at ≡ 4096 * index + from
    → at + length piece ≤ length bytes
    → leaf_bytes (Some leaf) ≡ put_at (leaf_bytes slot) (4096 * j + from) piece
    → shown size (set table k (Some leaf)) ≡ put_at bytes at piece
put_there size index k j from at table slot leaf piece bytes view made is index_is lt fits at_is within put =
    let long : length bytes ≡ size = ap (λ (xs : List ℕ). length xs) (sym view) ∙ length-shown size table in
    let place : 2097152 * k + (4096 * j + from) ≡ at = omega (arith, index_is, at_is) in
    shown_put size table k slot (Some leaf) (4096 * j + from) piece (made_is table k made) is
    (omega (arith, lt, fits)) put (omega (arith, place, within, long))
    ∙ (λ i. put_at (view i) (place i) piece)

pub returns-clause-bytes : goal.returns-clause-bytes
returns-clause-bytes c =
    let p = c.self.inside in
    let k : ℕ = c.args.index / 512 in
    let j : ℕ = c.args.index % 512 in
    let leaf = c.put.new.self in
    ap (λ (leaves : List (Option Leaf)). shown p.size leaves)
    (set-set p.table.items k c.take.new.self (Some leaf))
    ∙ put_there p.size c.args.index k j c.args.from _ p.table.items c.index_mut.result.now leaf c.args.piece.now
    c.args.self.now.bytes (ap (λ (v : Paged). v.bytes) c.self.view_is)
    (ap (λ (v : Paged). get_or v.made k false) c.self.view_is ∙ c.requires.leaf) c.index_mut.ensures.value
    (omega arith) (omega arith) c.requires.within refl c.requires.range
    (c.put.ensures.bytes ∙ ap (λ (l : Option Leaf). put_at (leaf_bytes l) (4096 * j + c.args.from) c.args.piece.now)
    c.in-Some.ensures.value)

pub returns-clause-kept : goal.returns-clause-kept
returns-clause-kept c k was =
    let p = c.self.inside in
    ap (λ (leaves : List (Option Leaf)). get_or (map is_some leaves) k false)
    (set-set p.table.items (c.args.index / 512) c.take.new.self (Some c.put.new.self))
    ∙ made_still p.table.items (c.args.index / 512) k c.put.new.self
    (ap (λ (v : Paged). get_or v.made k false) c.self.view_is ∙ was)
