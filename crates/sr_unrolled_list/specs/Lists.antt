-- A list in pieces: what clauses see of it, and what holds of its pieces.
use Rattle.std.specs.Prelude.{◌≡◌, ℕ, ◌+◌, ◌-◌, ◌*◌, ◌^◌, ◌<◌, ◌≤◌, List, [], ◌∷◌, length, take, slice_index_or, min}
use Rattle.std.specs.List.{flat_map, All}
use Rattle.std.specs.VecDeque.{deque_capacity}
use Rattle.std.specs.declared.collections.VecDeque.{VecDeque}
use Rattle.std.specs.declared.alloc.Global.{Global}
use Rattle.sr_unrolled_list.specs.declared.TheConstants.{PIECE}

-- The items in their order, and for how many more there is surely room.
pub record ListValue (T : Type 0) : Type 0 where
  pub items : List T
  pub room : ℕ

-- The pieces before the last one: their items in order, how many are in the first of them, and how many pieces are spare.
pub record PiecesValue (T : Type 0) : Type 0 where
  pub items : List T
  pub front : ℕ
  pub spare : ℕ

module _ {T : Type 0} where
  -- The items of pieces, one piece behind the other.
  abbrev pub items_of : List (VecDeque T Global) → List T
  items_of ps = flat_map (λ p. p.items) ps

  -- How many items are in the first piece.
  abbrev pub front_of : List (VecDeque T Global) → ℕ
  front_of [] = 0
  front_of (p ∷ ps) = length p.items

  -- A piece has room for as many items as any, and no more of them.
  pub record IsPiece (p : VecDeque T Global) : Type 0 where
    pub few : length p.items ≤ PIECE
    pub room : PIECE ≤ deque_capacity p

  -- A piece with an item.
  pub record IsFilled (p : VecDeque T Global) : Type 0 where
    pub some : 0 < length p.items
    pub is : IsPiece p

  -- A piece with none.
  pub record IsBlank (p : VecDeque T Global) : Type 0 where
    pub none : p.items ≡ []
    pub room : PIECE ≤ deque_capacity p

  -- Pieces in use, each with an item, and spare ones, all empty. Among either there is a place for all of them, so that a piece
  -- goes from one to the other without memory.
  pub record AreSound (used spare : VecDeque (VecDeque T Global) Global) : Type 0 where
    pub filled : All IsFilled used.items
    pub blank : All IsBlank spare.items
    pub used_fit : length used.items + length spare.items ≤ deque_capacity used
    pub spare_fit : length used.items + length spare.items ≤ deque_capacity spare

  -- The item at a place is in this piece, within it at this one. Where the place is behind all items, no piece is there.
  pub record IsAt (ps : List (VecDeque T Global)) (place at within : ℕ) : Type 0 where
    pub few : at ≤ length ps
    pub sum : place ≡ length (items_of (take at ps)) + within
    pub inside : (p : VecDeque T Global) → at < length ps → p ≡ slice_index_or ps at p → within < length p.items

  -- This piece has one item.
  pub record IsSingle (ps : List (VecDeque T Global)) (at : ℕ) : Type 0 where
    pub one : (p : VecDeque T Global) → p ≡ slice_index_or ps at p → length p.items ≡ 1

  -- A piece has room for the items of this one and of the one behind it.
  pub record AreFew (ps : List (VecDeque T Global)) (at : ℕ) : Type 0 where
    pub inside : at + 1 < length ps
    pub few : (p next : VecDeque T Global) → p ≡ slice_index_or ps at p → next ≡ slice_index_or ps (at + 1) next
        → length p.items + length next.items ≤ PIECE

  -- For how many more items there is room: for those that the last piece and the spare ones take, less one piece, which is kept so
  -- that the first item can go last. The list counts its items in 64 bits.
  abbrev pub room_of : ℕ → VecDeque T Global → ℕ → ℕ
  room_of spare last len = min (spare * PIECE - length last.items) (2 ^ 64 - 1 - len)

  -- The list counts its items, and those of the first piece have room in the last piece and in spare ones.
  pub record IsInPieces (pieces : PiecesValue T) (last : VecDeque T Global) (len : ℕ) : Type 0 where
    pub is : IsPiece last
    pub counted : len ≡ length pieces.items + length last.items
    pub few : pieces.front ≤ PIECE
    pub first : 0 < pieces.front → pieces.front + length last.items ≤ (pieces.spare + 1) * PIECE
