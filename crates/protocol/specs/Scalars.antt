-- The types of a Scalar and the fields that hold their values (L8).
use Rattle.std.specs.Prelude.{ℕ}

abbrev pub sint : ℕ
sint = 1

abbrev pub uint : ℕ
uint = 2

abbrev pub null : ℕ
null = 3

abbrev pub octets : ℕ
octets = 4

abbrev pub double : ℕ
double = 5

abbrev pub float : ℕ
float = 6

abbrev pub bool : ℕ
bool = 7

abbrev pub string : ℕ
string = 8

abbrev pub sint_field : ℕ
sint_field = 2

abbrev pub uint_field : ℕ
uint_field = 3

abbrev pub octets_field : ℕ
octets_field = 5

abbrev pub double_field : ℕ
double_field = 6

abbrev pub float_field : ℕ
float_field = 7

abbrev pub bool_field : ℕ
bool_field = 8

abbrev pub string_field : ℕ
string_field = 9
