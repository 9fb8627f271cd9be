-- Where the numbers of a slot stand in its entry, as in docs/LAYOUT.md.
use Rattle.std.specs.Prelude.{ℕ}

abbrev pub state_at : ℕ
state_at = 0

abbrev pub ifsc_at : ℕ
ifsc_at = 1

abbrev pub s_at : ℕ
s_at = 2

abbrev pub r_at : ℕ
r_at = 3

-- two bytes
abbrev pub bwt_at : ℕ
bwt_at = 4

-- two bytes
abbrev pub sent_at : ℕ
sent_at = 6

-- two bytes
abbrev pub whole_at : ℕ
whole_at = 8

-- two bytes
abbrev pub from_at : ℕ
from_at = 10

abbrev pub len_at : ℕ
len_at = 12

abbrev pub acked_at : ℕ
acked_at = 13

abbrev pub last_at : ℕ
last_at = 14

-- the low nibble of an R, the PCB of an S
abbrev pub value_at : ℕ
value_at = 15

abbrev pub byte_at : ℕ
byte_at = 16

abbrev pub go_at : ℕ
go_at = 17

abbrev pub requests_at : ℕ
requests_at = 18

abbrev pub entry_size : ℕ
entry_size = 19
