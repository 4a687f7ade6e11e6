-- What a program asks of the monitor. By the monitor's trap it asks for a service, whose number is in r9: to append the
-- low byte of r2 to the output, or to end the program.
use Rattle.std.specs.Prelude.{ℕ, List, ◌%◌, ◌^◌, ◌==◌, ◌&&◌, slice_index, if◌then◌else◌}
use Rattle.m88_isa.specs.declared.monitor.Service.{Service}
use Rattle.m88_isa.specs.declared.monitor.Service.TheVariants.{Out, End, Unserved}

-- the vector of the monitor's trap
abbrev pub monitor_trap : ℕ
monitor_trap = 496

-- the service that appends a byte to the output
abbrev pub put_service : ℕ
put_service = 0x20

-- the service that ends the program
abbrev pub exit_service : ℕ
exit_service = 0x63

-- the number of the register that has the service
abbrev pub service_register : ℕ
service_register = 9

-- the number of the register whose low byte is put out
abbrev pub output_register : ℕ
output_register = 2

-- what a taken trap of a vector gets of the monitor, by the values of the registers: of the monitor's own trap, by the
-- number in the register of the service, a byte is put out or the program ends; all else isn't served
abbrev pub service_of : ℕ → List ℕ → Service
service_of vector regs =
    if vector == monitor_trap && slice_index regs service_register == put_service
    then Out (slice_index regs output_register % 2 ^ 8)
    else if vector == monitor_trap && slice_index regs service_register == exit_service then End
    else Unserved
