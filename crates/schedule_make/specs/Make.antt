-- The schedule of four members and `number` transactions of four shapes, of which each fourth
-- begins a round: a split, a spending of what it created, a write and a read of one counter.
-- Source: this profile.
use Rattle.std.specs.Prelude.{◌==◌, ℕ, ◌+◌, ◌-◌, ◌%◌, List, [], ◌∷◌, ◌++◌, codes, decimal, if◌then◌else◌}
use Rattle.std.specs.List.{concat, flat_map, range_with_len}

unfoldable pub coin_text : ℕ → List ℕ
coin_text k =
    if k % 4 == 1
    then concat (codes "coin g" ∷ decimal k ∷ codes " u1 1000000\n" ∷ [])
    else concat (codes "coin g" ∷ decimal k ∷ codes " u0 1000000\n" ∷ [])

unfoldable pub split_text : ℕ → List ℕ
split_text k = concat (codes "tx t" ∷ decimal k ∷ codes " u0 0 g" ∷ decimal k ∷ codes "@1 2000 n:5 a:u1 split(gas,i0) transfer(r0,i1)\n" ∷ [])

-- transaction `k` sends back the coin that the split before it, `k - 1`, created
unfoldable pub spend_text : ℕ → List ℕ
spend_text k =
    concat (codes "tx t" ∷ decimal k ∷ codes " u1 0 g" ∷ decimal k ∷ codes "@1 2000 o:t" ∷ decimal (k - 1) ∷ codes ".0@2 a:u0 transfer(i0,i1)\n" ∷ [])

unfoldable pub write_text : ℕ → List ℕ
write_text k = concat (codes "tx t" ∷ decimal k ∷ codes " u0 0 g" ∷ decimal k ∷ codes "@1 2000 n:1 s:c0@1 counter_add(i1,i0)\n" ∷ [])

unfoldable pub read_text : ℕ → List ℕ
read_text k = concat (codes "tx t" ∷ decimal k ∷ codes " u0 0 g" ∷ decimal k ∷ codes "@1 2000 n:0 r:c0@1 counter_require(i1,i0)\n" ∷ [])

-- the line of transaction `k`: one of the four shapes in turn
abbrev pub tx_text : ℕ → List ℕ
tx_text k =
    if k % 4 == 0 then split_text k
    else (if k % 4 == 1 then spend_text k
    else (if k % 4 == 2 then write_text k
    else read_text k))

-- the lines by which members 0 to 2 vote for transaction `k`, and its certificate is formed
unfoldable pub votes_text : ℕ → List ℕ
votes_text k =
    concat (codes "vote 0 t" ∷ decimal k ∷ codes "\nvote 1 t" ∷ decimal k ∷ codes "\nvote 2 t" ∷ decimal k ∷ codes "\ncert t" ∷ decimal k ∷ codes " 0 1 2\n" ∷ [])

-- the lines by which members 0 to 2 take the certificate of transaction `k`, and execute it before it is in the
-- sequence
unfoldable pub sends_text : ℕ → List ℕ
sends_text k =
    concat (codes "send 0 t" ∷ decimal k ∷ codes "\nrun 0 1\nsend 1 t" ∷ decimal k ∷ codes "\nrun 1 1\nsend 2 t" ∷ decimal k ∷ codes "\nrun 2 1\n" ∷ [])

-- the lines of transaction `k` up to its certificate; the first of each four, a split, is also executed before it is
-- in the sequence
unfoldable pub certified_text : ℕ → List ℕ
certified_text k = if k % 4 == 0 then tx_text k ++ votes_text k ++ sends_text k else tx_text k ++ votes_text k

-- the line that orders transaction `k`, and a mark after each 64 of them
unfoldable pub order_text : ℕ → List ℕ
order_text k =
    if (k + 1) % 64 == 0
    then concat (codes "order t" ∷ decimal k ∷ codes "\norder commit\n" ∷ [])
    else concat (codes "order t" ∷ decimal k ∷ codes "\n" ∷ [])

abbrev pub members_text : List ℕ
members_text = codes "member 1 honest\nmember 1 honest\nmember 1 honest\nmember 1 honest\n"

unfoldable pub late_text : ℕ → List ℕ
late_text workers = concat (codes "see 3 65535\nrun 3 " ∷ decimal workers ∷ codes "\n" ∷ [])

-- the end of the schedule: members 0 to 2 take the sequence and end the epoch, all four turn, and member 0 is shown
unfoldable pub end_text : List ℕ
end_text =
    codes "see 0 65535\nrun 0 1\nsee 1 65535\nrun 1 1\nsee 2 65535\nrun 2 1\n"
    ++ codes "close 0\nend 0\norder end 0\nclose 1\nend 1\norder end 1\nclose 2\nend 2\norder end 2\n"
    ++ codes "see 0 3\nturn 0\nsee 1 3\nturn 1\nsee 2 3\nturn 2\nsee 3 3\nturn 3\nshow 0\n"

-- the texts for the numbers from 0 to below `number`, one after the other
abbrev pub for_each : (ℕ → List ℕ) → ℕ → List ℕ
for_each text number = flat_map text (range_with_len 0 number)

unfoldable pub make_text_of : ℕ → ℕ → List ℕ
make_text_of number workers =
    members_text ++ for_each coin_text number ++ codes "counter c0 0\n" ++ for_each certified_text number
    ++ for_each order_text number ++ late_text workers ++ end_text
