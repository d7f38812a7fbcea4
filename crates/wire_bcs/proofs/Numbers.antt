-- std's bytes of a number are its encoding.
use Rattle.std.proofs.Common.{◌≡◌, ℕ, List, length, sym, arith}
use Rattle.std.specs.Int.{w8, w16, w32, w64, w128, to_le_bytes, from_le_bytes}
use Rattle.wire_bcs.specs.Little.{value_of, to_le_bytes-is, from_le_bytes-is}
use Rattle.wire_bcs.specs.Items.{number_spell}

pub spells_1 : (n : ℕ) → number_spell 1 n ≡ to_le_bytes w8 n
unfolding number_spell
spells_1 n = sym (to_le_bytes-is w8 n)

pub spells_2 : (n : ℕ) → number_spell 2 n ≡ to_le_bytes w16 n
unfolding number_spell
spells_2 n = sym (to_le_bytes-is w16 n)

pub spells_4 : (n : ℕ) → number_spell 4 n ≡ to_le_bytes w32 n
unfolding number_spell
spells_4 n = sym (to_le_bytes-is w32 n)

pub spells_8 : (n : ℕ) → number_spell 8 n ≡ to_le_bytes w64 n
unfolding number_spell
spells_8 n = sym (to_le_bytes-is w64 n)

pub spells_16 : (n : ℕ) → number_spell 16 n ≡ to_le_bytes w128 n
unfolding number_spell
spells_16 n = sym (to_le_bytes-is w128 n)

pub ruleset spells = (spells_1, spells_2, spells_4, spells_8, spells_16)

-- the number that std reads from bytes is the one that they stand for

pub stands_1 : (bytes : List ℕ) → length bytes ≡ 1 → value_of bytes ≡ from_le_bytes w8 bytes
stands_1 bytes len = sym (from_le_bytes-is w8 bytes (omega arith) len)

pub stands_2 : (bytes : List ℕ) → length bytes ≡ 2 → value_of bytes ≡ from_le_bytes w16 bytes
stands_2 bytes len = sym (from_le_bytes-is w16 bytes (omega arith) len)

pub stands_4 : (bytes : List ℕ) → length bytes ≡ 4 → value_of bytes ≡ from_le_bytes w32 bytes
stands_4 bytes len = sym (from_le_bytes-is w32 bytes (omega arith) len)

pub stands_8 : (bytes : List ℕ) → length bytes ≡ 8 → value_of bytes ≡ from_le_bytes w64 bytes
stands_8 bytes len = sym (from_le_bytes-is w64 bytes (omega arith) len)

pub stands_16 : (bytes : List ℕ) → length bytes ≡ 16 → value_of bytes ≡ from_le_bytes w128 bytes
stands_16 bytes len = sym (from_le_bytes-is w128 bytes (omega arith) len)

pub ruleset stands = (stands_1, stands_2, stands_4, stands_8, stands_16)
