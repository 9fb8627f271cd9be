-- A block: NAD, PCB, LEN, INF, and the check.
use Rattle.std.specs.Prelude.{ℕ, ◌+◌, ◌-◌, ◌*◌, ◌/◌, ◌%◌, ◌^◌, Bool, cond, List, ◌∷◌, ◌++◌, length, get_or}
use Rattle.lent.specs.Place.{window}
use Rattle.block.specs.Check.{check_length, check_of}

-- where INF begins, after NAD, PCB and LEN
abbrev pub inf_at : ℕ
inf_at = 3

-- the length of a block without its INF: 4
abbrev pub frame : ℕ
frame = inf_at + check_length

-- ---- the parts of received bytes

abbrev pub nad : List ℕ → ℕ
nad s = get_or s 0 0

abbrev pub pcb : List ℕ → ℕ
pcb s = get_or s 1 0

abbrev pub len : List ℕ → ℕ
len s = get_or s 2 0

-- from byte 3 to the check
unfoldable pub inf_part : List ℕ → List ℕ
inf_part s = window s inf_at (length s - frame)

-- bit bn of a byte, b8 the highest and b1 the lowest
abbrev pub bit : ℕ → ℕ → ℕ
bit n x = x / 2 ^ (n - 1) % 2

-- ---- a block to send

-- the PCB of an I-block: b7 the number, b6 more to come
abbrev pub i_pcb : (number : ℕ) (more : Bool) → ℕ
i_pcb n m = 0x40 * n + cond m 0x20 0

-- the PCB of an R-block: b5 the number, 0 to 2 in its low nibble
abbrev pub r_pcb : (number nibble : ℕ) → ℕ
r_pcb n k = 0x80 + 0x10 * n + k

-- NAD 00, PCB, LEN, INF
unfoldable pub head_of : (pcb : ℕ) (inf : List ℕ) → List ℕ
head_of p inf = 0x00 ∷ p ∷ length inf ∷ inf

-- and the check
unfoldable pub block_of : (pcb : ℕ) (inf : List ℕ) → List ℕ
block_of p inf = head_of p inf ++ check_of (head_of p inf)
