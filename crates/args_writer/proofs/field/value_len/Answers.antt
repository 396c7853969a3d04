-- `args_writer::field::value_len` meets its contract, value by value. Assumes nothing.
use Rattle.prelude.proofs.Basics.{ℕ, arith, ap, length}
use Rattle.args_writer.proofs.Names.{varint_length, prefix_of, bytes_field, number_short, prefix_short, bytes_sum}
use Rattle.args_writer.proofs.Names.{fixed_parts}
use Rattle.args_writer.proofs.field.value_len.Goals as goal

pub overflow_add-result : goal.overflow_add-result
overflow_add-result c = omega (arith, varint_length 49)

pub overflow_add-result-in-Float : goal.overflow_add-result-in-Float
overflow_add-result-in-Float c = omega (arith, varint_length 61)

pub overflow_add-result-in-Bytes : goal.overflow_add-result-in-Bytes
overflow_add-result-in-Bytes c =
    omega (arith, prefix_short c.in-Bytes.num c.inner_len-n.result, c.inner_len-n.ensures.short)

pub returns-in-Number : goal.returns-in-Number
returns-in-Number c =
    record {
      short = omega (arith, number_short c.in-Number.num c.in-Number.value);
      count = rw c.in-Number.is c.number_len.ensures;
    }

pub returns-in-Double : goal.returns-in-Double
returns-in-Double c =
    record {
      short = omega (arith, varint_length 49);
      count = rw c.in-Double.is (omega (arith, fixed_parts 6 1 8 c.in-Double.field-0));
    }

pub returns-in-Float : goal.returns-in-Float
returns-in-Float c =
    record {
      short = omega (arith, varint_length 61);
      count = rw c.in-Float.is (omega (arith, fixed_parts 7 5 4 c.in-Float.field-0));
    }

pub returns-in-Bytes : goal.returns-in-Bytes
returns-in-Bytes c =
    record {
      short = omega (arith, prefix_short c.in-Bytes.num c.inner_len-n.result, c.inner_len-n.ensures.short);
      count =
          rw c.in-Bytes.is
          (omega (
            arith,
            bytes_sum c.in-Bytes.num (bytes_field 1 c.in-Bytes.bytes.now),
            ap (λ (n : ℕ). length (prefix_of c.in-Bytes.num n)) c.inner_len-n.ensures.count,
            c.inner_len-n.ensures.count,
          ));
    }
