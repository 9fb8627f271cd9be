-- "Reading a block" of document 01: what an event is, by its kind and its bytes.
use Rattle.std.specs.Prelude.{ℕ, ◌+◌, Bool, cond, ◌&&◌, List, leb, eqb, length}
use Rattle.block.specs.Check.{check_right}
use Rattle.block.specs.Block.{frame, nad, pcb, len, inf_part}
use Rattle.block.specs.Event.{sort_of, inf_of}
use Rattle.block.specs.declared.event.Event.{Event}
use Rattle.block.specs.declared.event.Event.TheVariants.{Edc, Other}

-- ---- a kind 0 event, tested in this order

-- at least 4 bytes, length 4 + LEN, LEN at most 254 (else other)
unfoldable pub whole : List ℕ → Bool
whole s = leb frame (length s) && (eqb (length s) (frame + len s) && leb (len s) 254)

-- exclusive or 0 (else EDC); NAD 00, PCB and LEN as they say (else other)
abbrev pub judged : (right ours : Bool) → Event → Event
judged right ours e = cond right (cond ours e Other) Edc

unfoldable pub bytes_of : List ℕ → Event
bytes_of s = cond (whole s) (judged (check_right s) (eqb (nad s) 0x00) (sort_of (pcb s) (inf_part s))) Other

-- ---- an event

-- kind 0 bytes with good parity, 1 a parity fault, 2 silence; bytes given with 1 and 2 are not looked at
unfoldable pub read_of : (kind : ℕ) → List ℕ → Event
read_of k s = cond (eqb k 0) (bytes_of s) (cond (eqb k 1) Edc Other)

-- its INF
unfoldable pub inf_read : (kind : ℕ) → List ℕ → List ℕ
inf_read k s = inf_of (read_of k s) s
