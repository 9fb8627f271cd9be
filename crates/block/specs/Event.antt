-- "Reading a block" of document 01: the blocks, by PCB, LEN and INF, and what an event is.
use Rattle.std.specs.Prelude.{ℕ, ◌≤◌, ◌≡◌, Bool, true, false, cond, ◌&&◌, ◌||◌, List, [], ◌∷◌, leb, eqb, length, get_or}
use Rattle.block.specs.Block.{inf_part, bit}
use Rattle.block.specs.declared.event.Event.{Event}
use Rattle.block.specs.declared.event.Event.TheVariants.{I, R, IfsRequest, IfsResponse, Abort, Wtx, Edc, Other}

-- ---- PCB

abbrev pub one_of : ℕ → List ℕ → Bool
one_of x [] = false
one_of x (c ∷ cs) = eqb x c || one_of x cs

-- I: PCB 00, 20, 40, 60; b7 the number, b6 more to come
abbrev pub i_codes : List ℕ
i_codes = 0x00 ∷ 0x20 ∷ 0x40 ∷ 0x60 ∷ []

-- R: 80, 81, 82, 90, 91, 92; b5 the number
abbrev pub r_codes : List ℕ
r_codes = 0x80 ∷ 0x81 ∷ 0x82 ∷ 0x90 ∷ 0x91 ∷ 0x92 ∷ []

-- S: C1 or E1 (IFS), C2 (abort), C3 (WTX), with their byte v. The other 242 PCBs are other.
unfoldable pub named_of : (pcb v : ℕ) → Event
named_of p v =
    cond (one_of p i_codes) (I (bit 7 p) (eqb (bit 6 p) 1))
    (cond (one_of p r_codes) (R (bit 5 p))
    (cond (eqb p 0xC1) (IfsRequest v)
    (cond (eqb p 0xE1) (IfsResponse v)
    (cond (eqb p 0xC2) Abort
    (cond (eqb p 0xC3) (Wtx v)
    Other)))))

-- ---- LEN and INF

-- n lies in a range, its ends included
abbrev pub between : (low n high : ℕ) → Bool
between low n high = leb low n && leb n high

-- one byte, of a range
abbrev pub one_byte : (low : ℕ) (inf : List ℕ) (high : ℕ) → Bool
one_byte low inf high = eqb (length inf) 1 && between low (get_or inf 0 0) high

-- I: LEN 1 to 254. R: LEN 0. S: IFS with one byte 10 to FE; abort with LEN 0; WTX with one byte 01 to FF
abbrev pub in_range : Event → List ℕ → Bool
in_range (I n m) inf = between 1 (length inf) 254
in_range (R n) inf = eqb (length inf) 0
in_range (IfsRequest n) inf = one_byte 0x10 inf 0xFE
in_range (IfsResponse n) inf = one_byte 0x10 inf 0xFE
in_range Abort inf = eqb (length inf) 0
in_range (Wtx n) inf = one_byte 0x01 inf 0xFF
in_range Edc inf = false
in_range Other inf = false

unfoldable pub sort_of : (pcb : ℕ) (inf : List ℕ) → Event
sort_of p inf = cond (in_range (named_of p (get_or inf 0 0)) inf) (named_of p (get_or inf 0 0)) Other

-- ---- its INF

abbrev pub well_of : Event → Bool
well_of (I n m) = true
well_of (R n) = true
well_of (IfsRequest n) = true
well_of (IfsResponse n) = true
well_of Abort = true
well_of (Wtx n) = true
well_of Edc = false
well_of Other = false

-- of a block that reads well, the part from byte 3 to the check; for other events the part is empty
unfoldable pub inf_of : Event → List ℕ → List ℕ
inf_of e s = cond (well_of e) (inf_part s) []

-- ---- what a well-read block tells, kind by kind

abbrev pub Told : Event → (inf : List ℕ) → Type 0
Told (I n m) inf = (n ≤ 1) × (1 ≤ length inf) × (length inf ≤ 254)
Told (R n) inf = (n ≤ 1) × (inf ≡ [])
Told (IfsRequest n) inf = (inf ≡ n ∷ []) × (0x10 ≤ n) × (n ≤ 0xFE)
Told (IfsResponse n) inf = (inf ≡ n ∷ []) × (0x10 ≤ n) × (n ≤ 0xFE)
Told Abort inf = inf ≡ []
Told (Wtx n) inf = (inf ≡ n ∷ []) × (0x01 ≤ n) × (n ≤ 0xFF)
Told Edc inf = inf ≡ []
Told Other inf = inf ≡ []
