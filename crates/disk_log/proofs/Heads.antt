-- What the bytes at a gate say.
use Rattle.std.proofs.Common.{◌≡◌, ℕ, ◌-◌, ◌<◌, ◌≤◌, List, [], ◌∷◌, ◌++◌, length, drop, refl, sym, arith, length-drop, length-take, Option, Some, None}
use Rattle.std.specs.Int.{w32, from_le_bytes}
use Rattle.wire_bcs.specs.Little.{value_of, from_le_bytes-is}
use Rattle.disk_log.specs.Disk.{History, HasExtent, IfTold}
use Rattle.disk_log.specs.Log.{IsNext}
use Rattle.disk_log.specs.Records.{counted}
use Rattle.disk_log.proofs.Counting.{counted-short}

pub stands : (bytes : List ℕ) → length bytes ≡ 4 → value_of bytes ≡ from_le_bytes w32 bytes
stands bytes len = sym (from_le_bytes-is w32 bytes (omega arith) len)

-- if fewer than ten bytes are left nothing counts
pub few : (file : List ℕ) → length file < 10 → counted file ≡ []
few [] lt = refl
few (gate ∷ rest) lt = counted-short gate rest (omega arith)

pub told-few : (told : Option History) (extent at left : ℕ) → HasExtent told extent → at ≤ extent → left ≡ extent - at → left < 10 → IfTold told (λ h. counted (drop at h.now.reads) ≡ [])
told-few None extent at left has le is lt = tt
told-few (Some h) extent at left has le is lt = few (drop at h.now.reads) (omega (arith, length-drop at h.now.reads))
