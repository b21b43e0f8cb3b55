-- When a carrier is abandoned into the pool. `is_due` says so.
-- Source: Erlang/OTP, 'Carrier Migration', section 'Migration'.
-- Source: Erlang/OTP, 'erts_alloc', section 'Flags for Configuration of Allocators Based on
-- alloc_util', flags acul and acfml.
use Rattle.std.specs.Prelude.{ℕ, ◌*◌, Bool, ◌&&◌, not, nat_lt, nat_le, List}
use Rattle.ea_model.specs.declared.settings.Settings.{Settings}
use Rattle.ea_model.specs.declared.units.TheConstants.{UNIT_BYTES}
use Rattle.ea_model.specs.Content.{Content, allocated, gaps_of, is_multi, is_nil, largest}
use Rattle.ea_model.specs.Instance.{figures}

-- whether fewer than acul percent of the units are allocated; with acul 0 they never are
abbrev pub is_sparse : Settings → ℕ → ℕ → Bool
is_sparse s used units = nat_lt (100 * used) (s.acul * units)

-- whether that holds of a carrier
abbrev pub is_sparse_carrier : Settings → Content → Bool
is_sparse_carrier s x = is_sparse s (allocated x.blocks) x.units

-- and of carriers together
abbrev pub are_sparse : Settings → List Content → Bool
are_sparse s xs = is_sparse s (figures xs).blocks_size (figures xs).carriers_size

-- whether the largest gap has at least acfml bytes
abbrev pub has_large_gap : Settings → Content → Bool
has_large_gap s x = nat_le s.acfml (UNIT_BYTES * largest (gaps_of x))

-- whether a carrier of these, which an instance employs, is abandoned after a release: it isn't the
-- main one and not empty; it is sparse, and all of them together are; its largest gap is large
-- enough; and the instance's count is 0
abbrev pub is_due : Settings → ℕ → List Content → Content → Bool
is_due s count xs x = nat_le count 0 && (is_multi x.kind && not (is_nil x.blocks)
    && (is_sparse_carrier s x && are_sparse s xs && has_large_gap s x))
