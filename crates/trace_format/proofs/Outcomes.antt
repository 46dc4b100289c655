-- What each outcome of decoding says of the input.
use Rattle.std.proofs.Common.{◌≡◌, ℕ, ◌+◌, ◌<◌, cond, eqb, List, [], ◌∷◌, ◌++◌, length, Ok, Err, Result, sym, refl, subst, inl, inr, arith, lit<}
use Rattle.std.proofs.lemmas.Bool.Decides.{eqb_tells}
use Rattle.trace_format.specs.declared.refusal.TraceRefusal.{TraceRefusal}
use Rattle.trace_format.specs.declared.refusal.TraceRefusal.TheVariants.{UnlistedMap, CutRecord}
use Rattle.trace_format.specs.Decoding.{Bytes, FitsRecord, Listed, fields_length}
use Rattle.trace_format.specs.Records.{Taken, count_in, finish_in, line_in, plain_read_in, record_in, record_of, reset_in, watch_read_in, write_in}
use Rattle.trace_format.proofs.Spelled.{line_back, split}

pub record Whole (map : ℕ) (fields : List ℕ) (taken : Taken) : Type 0 where
  pub listed : Listed map
  pub long : length fields ≡ length taken.rest + fields_length map
  pub spelled : Bytes (map ∷ fields) → (map ∷ fields ≡ record_of taken.call ++ taken.rest) × FitsRecord taken.call

-- what it says of a map and the bytes behind it
abbrev pub Says : ℕ → List ℕ → Result Taken TraceRefusal → Type 0
Says map fields (Ok taken) = Whole map fields taken
Says map fields (Err UnlistedMap) = Listed map → ⊥
Says map fields (Err CutRecord) = Listed map × (length fields < fields_length map)

-- plain read
plain_read_listed : Listed 0x03
plain_read_listed = inl refl

plain_read_says : (fields : List ℕ) → Says 0x03 fields (plain_read_in fields)
plain_read_says [] = (plain_read_listed, lit< tt)
plain_read_says (a ∷ []) = (plain_read_listed, lit< tt)
plain_read_says (a ∷ b ∷ []) = (plain_read_listed, lit< tt)
plain_read_says (a ∷ b ∷ c ∷ []) = (plain_read_listed, lit< tt)
plain_read_says (port ∷ device ∷ high ∷ low ∷ rest) =
    record { listed = plain_read_listed; long = omega arith; spelled = λ bytes. (let r = split high low (bytes 4) in cc, tt) }

-- write
write_listed : Listed 0x07
write_listed = inr (inl refl)

write_says : (fields : List ℕ) → Says 0x07 fields (write_in fields)
write_says [] = (write_listed, lit< tt)
write_says (a ∷ []) = (write_listed, lit< tt)
write_says (a ∷ b ∷ []) = (write_listed, lit< tt)
write_says (a ∷ b ∷ c ∷ []) = (write_listed, lit< tt)
write_says (a ∷ b ∷ c ∷ d ∷ []) = (write_listed, lit< tt)
write_says (a ∷ b ∷ c ∷ d ∷ e ∷ []) = (write_listed, lit< tt)
write_says (port ∷ device ∷ high ∷ low ∷ data_high ∷ data_low ∷ rest) =
    record {
      listed = write_listed;
      long = omega arith;
      spelled = λ bytes. (let r = split high low (bytes 4) in let w = split data_high data_low (bytes 6) in cc, tt);
    }

-- watch read
watch_read_listed : Listed 0x08
watch_read_listed = inr (inr (inl refl))

watch_read_says : (fields : List ℕ) → Says 0x08 fields (watch_read_in fields)
watch_read_says [] = (watch_read_listed, lit< tt)
watch_read_says (a ∷ []) = (watch_read_listed, lit< tt)
watch_read_says (watcher ∷ entry ∷ rest) =
    record { listed = watch_read_listed; long = omega arith; spelled = λ bytes. (refl, tt) }

-- line
line_listed : Listed 0x11
line_listed = inr (inr (inr (inl refl)))

line_says : (fields : List ℕ) → Says 0x11 fields (line_in fields)
line_says [] = (line_listed, lit< tt)
line_says (a ∷ []) = (line_listed, lit< tt)
line_says (a ∷ b ∷ []) = (line_listed, lit< tt)
line_says (port ∷ device ∷ line ∷ rest) =
    record { listed = line_listed; long = omega arith; spelled = λ bytes. (let l = line_back line (bytes 3) in cc, omega arith) }

-- count
count_listed : Listed 0x21
count_listed = inr (inr (inr (inr (inl refl))))

count_says : (fields : List ℕ) → Says 0x21 fields (count_in fields)
count_says [] = (count_listed, lit< tt)
count_says (a ∷ []) = (count_listed, lit< tt)
count_says (a ∷ b ∷ []) = (count_listed, lit< tt)
count_says (a ∷ b ∷ c ∷ []) = (count_listed, lit< tt)
count_says (a ∷ b ∷ c ∷ d ∷ []) = (count_listed, lit< tt)
count_says (port ∷ device ∷ counter ∷ high ∷ low ∷ rest) =
    record { listed = count_listed; long = omega arith; spelled = λ bytes. (let a = split high low (bytes 5) in cc, tt) }

-- reset
reset_listed : Listed 0x41
reset_listed = inr (inr (inr (inr (inr (inl refl)))))

reset_says : (fields : List ℕ) → Says 0x41 fields (reset_in fields)
reset_says [] = (reset_listed, lit< tt)
reset_says (a ∷ []) = (reset_listed, lit< tt)
reset_says (port ∷ device ∷ rest) =
    record { listed = reset_listed; long = omega arith; spelled = λ bytes. (refl, tt) }

-- finish
finish_listed : Listed 0x83
finish_listed = inr (inr (inr (inr (inr (inr refl)))))

finish_says : (fields : List ℕ) → Says 0x83 fields (finish_in fields)
finish_says [] = (finish_listed, lit< tt)
finish_says (a ∷ []) = (finish_listed, lit< tt)
finish_says (a ∷ b ∷ []) = (finish_listed, lit< tt)
finish_says (a ∷ b ∷ c ∷ []) = (finish_listed, lit< tt)
finish_says (a ∷ b ∷ c ∷ d ∷ []) = (finish_listed, lit< tt)
finish_says (port ∷ device ∷ high ∷ low ∷ bit ∷ rest) =
    record { listed = finish_listed; long = omega arith; spelled = λ bytes. (let r = split high low (bytes 4) in cc, tt) }

-- either the map is this one, or the next is tried
by_map : (map fits : ℕ) (fields : List ℕ) (here : List ℕ → Result Taken TraceRefusal) (other : Result Taken TraceRefusal)
    → ((fields : List ℕ) → Says fits fields (here fields)) → ((map ≡ fits → ⊥) → Says map fields other)
    → Says map fields (cond (eqb map fits) (here fields) other)
by_map map fits fields here other h o =
    elim (eqb_tells map fits) [
      | inl t ↦ subst (λ b. Says map fields (cond b (here fields) other)) (sym t.0) (subst (λ m. Says m fields (here fields)) (sym t.1) (h fields))
      | inr t ↦ subst (λ b. Says map fields (cond b (here fields) other)) (sym t.0) (o t.1)
    ]

pub says : (map : ℕ) (fields : List ℕ) → Says map fields (record_in map fields)
says map fields =
    by_map map 0x03 fields plain_read_in _ plain_read_says (λ a.
    by_map map 0x07 fields write_in _ write_says (λ b.
    by_map map 0x08 fields watch_read_in _ watch_read_says (λ c.
    by_map map 0x11 fields line_in _ line_says (λ d.
    by_map map 0x21 fields count_in _ count_says (λ e.
    by_map map 0x41 fields reset_in _ reset_says (λ f.
    by_map map 0x83 fields finish_in _ finish_says (λ g l. omega arith)))))))
